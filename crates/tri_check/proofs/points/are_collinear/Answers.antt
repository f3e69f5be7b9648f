use Rattle.std.proofs.Common.{arith}
use Rattle.tri_theory.specs.Points.{IsLeft}
use Rattle.tri_check.proofs.Searches.{refuted, none_more}
use Rattle.tri_check.proofs.Lines.{collinear}
use Rattle.tri_check.proofs.points.are_collinear.Goals as goal

pub returns-then-is_left : goal.returns-then-is_left
returns-then-is_left c = (0, 1, c.loop-c.c, omega arith, omega arith, omega arith, c.is_left.ensures.0 c.if-is_left.true)

pub returns-then-is_left-2 : goal.returns-then-is_left-2
returns-then-is_left-2 c = (1, 0, c.loop-c.c, omega arith, omega arith, omega arith, c.is_left-in-loop-c.ensures.0 c.if-is_left-2.true)

pub loop-c-preserved : goal.loop-c-preserved
loop-c-preserved c = λ k h. (
  none_more (IsLeft c.args.points.now 0 1) c.loop-c.c (λ j l. (c.loop-c.invariant j l).0) (refuted _ _ c.is_left.ensures c.if-is_left.false) k h,
  none_more (IsLeft c.args.points.now 1 0) c.loop-c.c (λ j l. (c.loop-c.invariant j l).1) (refuted _ _ c.is_left-in-loop-c.ensures c.if-is_left-2.false) k h,
)

pub returns : goal.returns
returns c = collinear c.args.points.now c.requires.distinct c.requires.some (λ k h. c.loop-c.invariant k (omega arith))
