use Rattle.std.proofs.Common.{◌∙◌, sym}
use Rattle.round_pack.proofs.Slots.{slot_none, same_slot, flips_listed, flips_passed}
use Rattle.round_pack.proofs.slot.flips_in.Goals.{in-Some+in_ok-push, in_default}
use Rattle.round_pack.proofs.slot.flips_in.Goals as goal

pub loop-i-preserved : goal.loop-i-preserved
loop-i-preserved c = elim c.match-slots-i.branch [
  | in-Some+in_ok-push w ↦ rw (w.flips-is) (flips_listed c.args.slots.now c.loop-i.flips.items w.push.new.self.items c.loop-i.i w.in-Some.entry c.loop-i-test.true (sym (same_slot c.args.slots.now c.loop-i.i _ c.loop-i-test.true) ∙ w.in-Some.is) c.loop-i.invariant w.in_ok-push.ensures.items)
  | in_default w ↦ rw (w.flips-is) (flips_passed c.args.slots.now c.loop-i.flips.items c.loop-i.i c.loop-i-test.true (sym (same_slot c.args.slots.now c.loop-i.i _ c.loop-i-test.true) ∙ slot_none _ w.in_default.not-Some) c.loop-i.invariant)
]
