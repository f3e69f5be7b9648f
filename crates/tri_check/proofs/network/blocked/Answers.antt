use Rattle.std.proofs.Common.{arith}
use Rattle.tri_check.specs.Stages.{IsBlocked}
use Rattle.tri_check.proofs.Searches.{all_before_more, all_at_end, first_at, contains_at}
use Rattle.tri_check.proofs.network.blocked.Goals as goal

pub blocker_of-requires-clause-within : goal.blocker_of-requires-clause-within
blocker_of-requires-clause-within c = c.requires.edges.in_range c.at-e.result (contains_at c.args.edges.now c.loop-i.i c.at-e.result c.at-e.ensures (omega (arith, c.len-i-end.ensures.len)))

pub returns-in-Some : goal.returns-in-Some
returns-in-Some c = (
  first_at c.args.edges.now (IsBlocked c.args.points.now) c.loop-i.i c.at-e.result c.len-i-end.ensures.ascending (omega (arith, c.len-i-end.ensures.len)) c.at-e.ensures c.loop-i.invariant (c.in-Some.q, c.in-Some.ensures.below, c.in-Some.ensures.holds),
  c.in-Some.ensures,
)

pub loop-i-preserved : goal.loop-i-preserved
loop-i-preserved c = all_before_more c.args.edges.now (λ e. ¬ IsBlocked c.args.points.now e) c.loop-i.i c.at-e.result c.at-e.ensures c.loop-i.invariant (λ (q, l, s). c.in_default.ensures q l s)

pub returns : goal.returns
returns c = all_at_end c.args.edges.now (λ e. ¬ IsBlocked c.args.points.now e) c.loop-i.i (omega (arith, c.len-i-end.ensures.len)) c.loop-i.invariant
