use Rattle.std.proofs.Common.{ℕ, arith}
use Rattle.tri_theory.specs.Triangulations.{AreJoined}
use Rattle.tri_check.specs.Stages.{IsEnd}
use Rattle.tri_check.proofs.Searches.{on_true, on_false, all_more}
use Rattle.tri_check.proofs.network.lone_point.Goals as goal

pub returns-then-not-is_end : goal.returns-then-not-is_end
returns-then-not-is_end c = record {
  below = omega arith;
  holds = on_false c.is_end.result (IsEnd c.args.edges.now c.loop-p.p) ((q : ℕ) → ¬ AreJoined c.args.edges.now c.loop-p.p q) c.is_end.ensures c.if-not-is_end.true;
  least = λ k h none. none (c.loop-p.invariant k h).0 (c.loop-p.invariant k h).1;
}

pub loop-p-preserved : goal.loop-p-preserved
loop-p-preserved c = all_more (IsEnd c.args.edges.now) c.loop-p.p c.loop-p.invariant (on_true c.is_end.result (IsEnd c.args.edges.now c.loop-p.p) ((q : ℕ) → ¬ AreJoined c.args.edges.now c.loop-p.p q) c.is_end.ensures c.if-not-is_end.false)
