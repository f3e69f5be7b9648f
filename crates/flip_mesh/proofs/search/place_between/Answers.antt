use Rattle.std.proofs.Common.{arith}
use Rattle.flip_mesh.proofs.Places.{before_middle, after_middle}
use Rattle.flip_mesh.proofs.search.place_between.Goals as goal

pub loop-low-preserved : goal.loop-low-preserved
loop-low-preserved c = let B = c.loop-low.invariant.between in record {
  between = record {
    ordered = omega arith;
    within = let w = B.within in omega arith;
    below = B.below;
    above = after_middle c.args.items.now c.args.u c.args.v _ _ _ _ _ c.requires.ordered (let w = B.within in omega arith) c.is_way.ensures c.if-is_way.false c.comes_before.ensures c.if-comes_before.false;
  };
}

pub loop-low-preserved-then-comes_before : goal.loop-low-preserved-then-comes_before
loop-low-preserved-then-comes_before c = let B = c.loop-low.invariant.between in record {
  between = record {
    ordered = omega arith;
    within = B.within;
    below = before_middle c.args.items.now c.args.u c.args.v _ _ _ c.requires.ordered (let w = B.within in omega arith) c.comes_before.ensures c.if-comes_before.true;
    above = B.above;
  };
}
