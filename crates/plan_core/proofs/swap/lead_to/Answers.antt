use Rattle.std.proofs.Common.{◌∙◌, sym, subst}
use Rattle.tri_theory.specs.Triangulations.{IsTriangulation}
use Rattle.replay.specs.Independent.{AreRoundsOf}
use Rattle.plan_law.proofs.Replays.{inside}
use Rattle.plan_core.proofs.swap.lead_to.Goals as goal

pub returns-clause-ok : goal.returns-clause-ok
returns-clause-ok c =
    let same = c.in_ok-end.ensures.points ∙ sym c.requires in
    subst (AreRoundsOf c.args.input.now.points c.args.input.now.edges c.args.rounds.now)
    (inside c.args.centre.now.points c.points.ensures.triangulation.placed c.in_ok-end.end.edges c.args.centre.now.edges (subst (λ ps. IsTriangulation ps c.in_ok-end.end.edges) same c.len.ensures.triangulation.triangulation) c.points.ensures.triangulation.triangulation c.in-None.ensures.none)
    c.in_ok-end.ensures.ok
