use Rattle.std.proofs.Common.{arith}
use Rattle.tri_check.specs.Stages.{EndsAt}
use Rattle.tri_check.proofs.Searches.{refuted, all_before_more, contains_at}
use Rattle.tri_check.proofs.Nets.{end_of}
use Rattle.tri_check.proofs.network.is_end.Goals as goal

pub returns-then-ends_at : goal.returns-then-ends_at
returns-then-ends_at c = end_of c.args.edges.now c.at-e.result c.args.p (contains_at c.args.edges.now c.loop-i.i c.at-e.result c.at-e.ensures (omega (arith, c.len-i-end.ensures.len))) c.ends_at.ensures.order (c.ends_at.ensures.answer.0 c.if-ends_at.true)

pub loop-i-preserved : goal.loop-i-preserved
loop-i-preserved c = all_before_more c.args.edges.now (λ e. ¬ EndsAt e c.args.p) c.loop-i.i c.at-e.result c.at-e.ensures c.loop-i.invariant (refuted _ _ c.ends_at.ensures.answer c.if-ends_at.false)
