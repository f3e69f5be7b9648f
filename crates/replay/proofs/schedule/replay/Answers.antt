use Rattle.std.proofs.Common.{◌∙◌, subst, arith}
use Rattle.tri_theory.specs.Rounds.{IsRound}
use Rattle.replay.proofs.Lists.{take_push, read_at}
use Rattle.replay.proofs.Taking.{rounds_more}
use Rattle.replay.proofs.schedule.replay.Goals as goal

pub loop-r-preserved : goal.loop-r-preserved
loop-r-preserved c = record {
  points = c.make_round.ensures.points ∙ c.loop-r.invariant.points;
  leads = rw (take_push c.args.rounds.now c.loop-r.r c.at.result.now (omega (arith, c.len-r-end.ensures, c.loop-r-test.true)) (read_at c.args.rounds.now c.loop-r.r c.at.result.now c.at.ensures))
      (rounds_more c.args.start.now.points c.args.start.now.edges c.loop-r.mesh.edges c.make_round.new.mesh.edges c.at.result.now _ c.loop-r.invariant.leads c.in_ok-make_round.ensures.distinct
      (subst (λ ps. IsRound ps c.loop-r.mesh.edges c.at.result.now c.make_round.new.mesh.edges) c.loop-r.invariant.points c.in_ok-make_round.ensures.ok));
}
