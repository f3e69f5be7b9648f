use Rattle.std.proofs.Common.{subst}
use Rattle.tri_check.specs.Problems.{Problem}
use Rattle.lawson_start.specs.Starts.{IsStart}
use Rattle.plan_moves.proofs.Openings.{tracks_lead}
use Rattle.plan_tests.proofs.openings.opening.Goals as goal

pub opening-requires-clause-tracks : goal.opening-requires-clause-tracks
opening-requires-clause-tracks c =
    let opening = c.in_ok-opening.opening in
    let problem = c.args.inst.value in
    let is = subst (λ (p : Problem). IsStart p.points p.inputs 100 opening) c.deref.ensures c.in_ok-opening.ensures.ok in
    tracks_lead problem.points opening.centre.edges problem.inputs opening.tracks is.tracks
