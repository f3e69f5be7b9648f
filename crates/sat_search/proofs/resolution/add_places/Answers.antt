use Rattle.std.proofs.Common.{◌+◌, ℕ, sym, ap, ◌∙◌, subst, take}
use Rattle.std.specs.BTreeSet.{BTreeSet}
use Rattle.sat_search.proofs.Resolving.{AreAdded, added_none, added_here, added_late, added_unassigned, added_all}
use Rattle.sat_search.proofs.resolution.add_places.Goals as goal
use Rattle.sat_search.proofs.resolution.add_places.Goals.{in-Some+then-place-before+in_ok-insert, in-Some+else-place-before, in_default}

pub loop-i-init : goal.loop-i-init
loop-i-init c = added_none c.args.state.now c.requires.search c.args.before c.args.pending.now.keys

pub loop-i-preserved : goal.loop-i-preserved
loop-i-preserved c =
    elim c.match-place.branch [
      | in-Some+then-place-before+in_ok-insert w ↦ added_here c.args.state.now c.requires.search c.args.clause.now c.args.before c.loop-i.i c.at.result.now c.at.ensures c.args.pending.now.keys c.loop-i.pending.keys c.loop-i.invariant
          w.in-Some.place c.match-place.pending.keys (sym c.place.ensures ∙ w.in-Some.is) w.if-place-before.true (ap (λ (t : BTreeSet ℕ). t.keys) w.pending-is ∙ w.in_ok-insert.ensures.keys)
      | in-Some+else-place-before w ↦ subst (λ (t : BTreeSet ℕ). AreAdded c.args.state.now (take (c.loop-i.i + 1) c.args.clause.now) c.args.before c.args.pending.now.keys t.keys) (sym w.pending-is)
          (added_late c.args.state.now c.requires.search c.args.clause.now c.args.before c.loop-i.i c.at.result.now c.at.ensures c.args.pending.now.keys c.loop-i.pending.keys c.loop-i.invariant
          w.in-Some.place (sym c.place.ensures ∙ w.in-Some.is) w.if-place-before.false)
      | in_default w ↦ subst (λ (t : BTreeSet ℕ). AreAdded c.args.state.now (take (c.loop-i.i + 1) c.args.clause.now) c.args.before c.args.pending.now.keys t.keys) (sym w.pending-is)
          (added_unassigned c.args.state.now c.requires.search c.args.clause.now c.args.before c.loop-i.i c.at.result.now c.at.ensures c.args.pending.now.keys c.loop-i.pending.keys c.loop-i.invariant
          (sym c.place.ensures ∙ w.in_default.is))
    ]

pub returns : goal.returns
returns c = added_all c.args.state.now c.requires.search c.args.clause.now c.args.before c.loop-i.i c.len-i-end.result c.args.pending.now.keys c.loop-i.pending.keys c.len-i-end.ensures.items c.loop-i-test.false c.loop-i.invariant
