use Rattle.std.proofs.Common.{arith}
use Rattle.tri_check.specs.Stages.{CrossesLater}
use Rattle.tri_check.proofs.Searches.{refuted, all_before_more, first_at, contains_at, not_after, later}
use Rattle.tri_check.proofs.network.crossing_of.Goals as goal

pub loop-j-init : goal.loop-j-init
loop-j-init c = λ k d h x. not_after c.args.edges.now c.args.i c.args.e c.len-count.ensures.ascending c.requires.within c.requires.place k d h x.0

pub crosses-requires-clause-first : goal.crosses-requires-clause-first
crosses-requires-clause-first c = c.requires.edges.in_range c.args.e (contains_at c.args.edges.now c.args.i c.args.e c.requires.place c.requires.within)

pub crosses-requires-clause-second : goal.crosses-requires-clause-second
crosses-requires-clause-second c = c.requires.edges.in_range c.at-f.result (contains_at c.args.edges.now c.loop-j.j c.at-f.result c.at-f.ensures (omega (arith, c.len-count.ensures.len)))

pub returns-then-crosses : goal.returns-then-crosses
returns-then-crosses c =
    first_at c.args.edges.now (CrossesLater c.args.points.now c.args.e) c.loop-j.j c.at-f.result c.len-count.ensures.ascending (omega (arith, c.len-count.ensures.len)) c.at-f.ensures c.loop-j.invariant
    (later c.args.edges.now c.args.i c.loop-j.j c.args.e c.at-f.result c.len-count.ensures.ascending (omega arith) (omega (arith, c.len-count.ensures.len)) c.requires.place c.at-f.ensures, c.crosses.ensures.0 c.if-crosses.true)

pub loop-j-preserved : goal.loop-j-preserved
loop-j-preserved c = all_before_more c.args.edges.now (λ f. ¬ CrossesLater c.args.points.now c.args.e f) c.loop-j.j c.at-f.result c.at-f.ensures c.loop-j.invariant (λ x. refuted _ _ c.crosses.ensures c.if-crosses.false x.1)
