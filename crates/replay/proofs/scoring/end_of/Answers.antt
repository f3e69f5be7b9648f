use Rattle.std.proofs.Common.{◌∙◌, subst}
use Rattle.replay.specs.Independent.{AreRoundsOf}
use Rattle.replay.proofs.scoring.end_of.Goals as goal

pub returns-in-Ok : goal.returns-in-Ok
returns-in-Ok c = record {
  points = c.in-Ok.ensures.points ∙ c.input.ensures.points;
  ok = record {
    input = c.input.result.now.edges;
    rounds = c.at.result.now;
    input_there = c.input.ensures.edges;
    rounds_there = c.at.ensures;
    leads = subst (λ ps. AreRoundsOf ps c.input.result.now.edges c.at.result.now c.in-Ok.end.edges) c.input.ensures.points c.in-Ok.ensures.ok;
  };
  err = tt;
}
