use Rattle.std.proofs.Common.{◌∙◌, ap, arith}
use Rattle.tri_check.specs.Problems.{Problem}
use Rattle.plan_moves.proofs.Lowered.{stops, follows_on}
use Rattle.plan_moves.proofs.lowering.follow_in_turn.Goals as goal

pub returns-then-not-flips-clause-plan : goal.returns-then-not-flips-clause-plan
returns-then-not-flips-clause-plan c =
    stops c.args.plan.now.problem.points c.loop-i.plan.problem.points c.loop-i.plan.problem.inputs c.args.plan.now.plan c.loop-i.plan.plan c.args.edges.now c.loop-i.i c.at-e.result.now c.flips.result
    (ap (λ (p : Problem). p.points) c.loop-i.invariant.problem) c.total.ensures.problem c.total.ensures.plan c.flips.ensures c.if-not-flips.true (omega arith) c.at-e.ensures c.loop-i.invariant.rest

pub loop-i-preserved : goal.loop-i-preserved
loop-i-preserved c = record {
  problem = c.follow.ensures.problem ∙ c.loop-i.invariant.problem;
  room = omega arith;
  rest =
      follows_on c.args.plan.now.problem.points c.loop-i.plan.problem.points c.args.plan.now.plan c.loop-i.plan.plan c.follow.new.self.plan c.args.edges.now c.loop-i.i c.at-e.result.now
      (ap (λ (p : Problem). p.points) c.loop-i.invariant.problem) c.follow.ensures.plan (omega arith) c.at-e.ensures c.loop-i.invariant.rest;
}
