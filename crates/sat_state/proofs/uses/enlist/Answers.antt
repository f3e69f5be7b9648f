use Rattle.std.proofs.Common.{◌≡◌, ◌+◌, ◌<◌, ℕ, List, length, take, set, sym, subst, arith}
use Rattle.sat_state.specs.Tables.{slots, enlisted}
use Rattle.sat_state.proofs.Indexing.{slot_within, enlist_step}
use Rattle.sat_state.proofs.uses.enlist.Goals as goal

pub bounds-uses-slot : goal.bounds-uses-slot
bounds-uses-slot c =
    let w = slot_within c.args.clause.now c.loop-i.i c.at.result.now (length c.args.uses.now) c.at.ensures c.requires in
    omega (arith, w, c.slot.ensures.place, c.loop-i.auto.uses)

pub loop-i-preserved : goal.loop-i-preserved
loop-i-preserved c =
    let w = slot_within c.args.clause.now c.loop-i.i c.at.result.now (length c.args.uses.now) c.at.ensures c.requires in
    let b : c.slot.result < length c.loop-i.uses = omega (arith, w, c.slot.ensures.place, c.loop-i.auto.uses) in
    subst (λ (xs : List ℕ). set c.loop-i.uses c.slot.result xs ≡ enlisted c.args.uses.now (take (c.loop-i.i + 1) (slots c.args.clause.now)) c.args.number) (sym c.in-Ok.ensures.ok)
    (enlist_step c.args.uses.now c.loop-i.uses c.args.clause.now c.loop-i.i c.at.result.now c.args.number c.slot.result c.index-uses-slot.result c.at.ensures c.slot.ensures.place b c.loop-i.invariant)
