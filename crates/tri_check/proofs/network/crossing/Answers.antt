use Rattle.std.proofs.Common.{arith}
use Rattle.tri_check.specs.Stages.{IsCrossed}
use Rattle.tri_check.proofs.Searches.{all_before_more, all_at_end, first_at}
use Rattle.tri_check.proofs.network.crossing.Goals as goal

pub returns-in-Some : goal.returns-in-Some
returns-in-Some c = (
  first_at c.args.edges.now (IsCrossed c.args.points.now c.args.edges.now) c.loop-i.i c.at-e.result c.len-i-end.ensures.ascending (omega (arith, c.len-i-end.ensures.len)) c.at-e.ensures c.loop-i.invariant (c.in-Some.f, c.in-Some.ensures.member, c.in-Some.ensures.holds),
  c.in-Some.ensures,
)

pub loop-i-preserved : goal.loop-i-preserved
loop-i-preserved c = all_before_more c.args.edges.now (λ e. ¬ IsCrossed c.args.points.now c.args.edges.now e) c.loop-i.i c.at-e.result c.at-e.ensures c.loop-i.invariant (λ (f, h, x). c.in_default.ensures f h x)

pub returns : goal.returns
returns c = all_at_end c.args.edges.now (λ e. ¬ IsCrossed c.args.points.now c.args.edges.now e) c.loop-i.i (omega (arith, c.len-i-end.ensures.len)) c.loop-i.invariant
