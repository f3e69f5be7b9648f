use Rattle.std.proofs.Common.{◌∙◌, Some, sym, ap}
use Rattle.round_pack.specs.Slots.{flips_in, numbers_in}
use Rattle.round_pack.proofs.Slots.{slot_none, same_slot, flips_more, numbers_more, flips_past, numbers_past}
use Rattle.round_pack.proofs.chain.compacted.Goals.{in-Some+in_ok-keep, in_default}
use Rattle.round_pack.proofs.chain.compacted.Goals as goal

pub loop-i-preserved : goal.loop-i-preserved
loop-i-preserved c = elim c.match-slots-i.branch [
  | in-Some+in_ok-keep w ↦ record {
    chained = rw (w.heads-is, w.before-is, w.kept-is) w.in_ok-keep.ensures.chained;
    flips = rw (w.kept-is) (ap flips_in w.in_ok-keep.ensures.slots ∙ flips_more c.args.slots.now c.loop-i.kept.items c.loop-i.i (Some w.in-Some.entry) c.loop-i-test.true (sym (same_slot c.args.slots.now c.loop-i.i _ c.loop-i-test.true) ∙ w.in-Some.is) c.loop-i.invariant.flips);
    numbers = rw (w.kept-is) (ap numbers_in w.in_ok-keep.ensures.slots ∙ numbers_more c.args.slots.now c.loop-i.kept.items c.loop-i.i (Some w.in-Some.entry) c.loop-i-test.true (sym (same_slot c.args.slots.now c.loop-i.i _ c.loop-i-test.true) ∙ w.in-Some.is) c.loop-i.invariant.numbers);
  }
  | in_default w ↦ record {
    chained = rw (w.heads-is, w.before-is, w.kept-is) c.loop-i.invariant.chained;
    flips = rw (w.kept-is) (flips_past c.args.slots.now c.loop-i.kept.items c.loop-i.i c.loop-i-test.true (sym (same_slot c.args.slots.now c.loop-i.i _ c.loop-i-test.true) ∙ slot_none _ w.in_default.not-Some) c.loop-i.invariant.flips);
    numbers = rw (w.kept-is) (numbers_past c.args.slots.now c.loop-i.kept.items c.loop-i.i c.loop-i-test.true (sym (same_slot c.args.slots.now c.loop-i.i _ c.loop-i-test.true) ∙ slot_none _ w.in_default.not-Some) c.loop-i.invariant.numbers);
  }
]
