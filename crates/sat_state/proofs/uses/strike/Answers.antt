use Rattle.std.proofs.Common.{◌≡◌, ◌+◌, ◌-◌, ◌<◌, ℕ, List, length, take, set, sym, ap, ◌∙◌, subst, arith}
use Rattle.sat_state.specs.Tables.{slots, enlisted}
use Rattle.sat_state.proofs.Indexing.{slot_within, strike_step}
use Rattle.sat_state.proofs.uses.strike.Goals as goal

pub bounds-uses-slot : goal.bounds-uses-slot
bounds-uses-slot c =
    let w = slot_within c.args.clause.now (c.loop-left.left - 1) c.at.result.now (length c.args.uses.now) c.at.ensures c.requires.slots in
    omega (arith, w, c.slot.ensures.place, c.loop-left.auto.uses)

pub loop-left-preserved : goal.loop-left-preserved
loop-left-preserved c =
    let w = slot_within c.args.clause.now (c.loop-left.left - 1) c.at.result.now (length c.args.uses.now) c.at.ensures c.requires.slots in
    let b : c.slot.result < length c.loop-left.uses = omega (arith, w, c.slot.ensures.place, c.loop-left.auto.uses) in
    let one : c.loop-left.left ≡ c.loop-left.left - 1 + 1 = omega (arith, c.loop-left-test.true) in
    record {
      within = omega (arith, c.loop-left.invariant.within);
      struck = λ before number h e.
          subst (λ (xs : List ℕ). set c.loop-left.uses c.slot.result xs ≡ enlisted before (take (c.loop-left.left - 1) (slots c.args.clause.now)) number) (sym c.pop.ensures)
          (strike_step before c.loop-left.uses c.args.clause.now (c.loop-left.left - 1) c.at.result.now number c.slot.result c.index-uses-slot.result c.at.ensures c.slot.ensures.place b h
          (c.loop-left.invariant.struck before number h e ∙ ap (λ n. enlisted before (take n (slots c.args.clause.now)) number) one));
    }
