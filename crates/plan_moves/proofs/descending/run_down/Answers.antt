use Rattle.std.proofs.Common.{◌∙◌, ◌<◌, refl, sym, ap, subst}
use Rattle.tri_check.specs.Layouts.{IsTriangulated}
use Rattle.plan_law.specs.Improvers.{weight_of}
use Rattle.plan_moves.specs.Rounds.{HasEachLower, HaveSameMembers, Descends, run}
use Rattle.plan_moves.proofs.Adding.{flippable_candidates}
use Rattle.plan_moves.proofs.Descents.{all_preceded, step_falls, step_on, step_ends}
use Rattle.plan_moves.proofs.descending.run_down.Goals as goal

pub loop-rounds-init : goal.loop-rounds-init
loop-rounds-init c = record {
  points = refl;
  candidates =
      flippable_candidates c.args.mesh.now.points c.args.mesh.now.edges c.args.centre.now.edges c.in_ok-flippable.flippable c.in_ok-candidates.candidates c.in_ok-flippable.ensures.members
      (subst (HaveSameMembers c.in_ok-candidates.candidates) c.as_slice.ensures c.in_ok-candidates.ensures);
  rest = ap (λ rounds. all_preceded rounds (run c.args.mesh.now.points c.args.centre.now.edges c.args.mesh.now.edges)) (sym c.make-rounds.ensures);
}

pub loop-rounds-smaller : goal.loop-rounds-smaller
loop-rounds-smaller c =
    subst (λ ps. weight_of ps c.args.centre.now.edges c.go_down.new.mesh.edges < weight_of c.loop-rounds.mesh.points c.args.centre.now.edges c.loop-rounds.mesh.edges) (sym c.go_down.ensures.points)
    (step_falls c.loop-rounds.mesh.points c.go_down.ensures.triangulated.placed c.args.centre.now.edges c.loop-rounds.mesh.edges c.go_down.new.mesh.edges c.loop-rounds.rounds c.go_down.new.rounds c.in_ok-go_down.field-0 c.go_down.ensures.triangulated.triangulation
    c.in_ok-go_down.ensures.ok c.if-branch.true)

pub loop-rounds-preserved : goal.loop-rounds-preserved
loop-rounds-preserved c =
    let T = subst (λ ps. IsTriangulated ps c.loop-rounds.mesh.edges) c.loop-rounds.invariant.points c.go_down.ensures.triangulated in
    let S = subst (λ ps. Descends ps c.args.centre.now.edges c.loop-rounds.mesh.edges c.loop-rounds.rounds c.in_ok-go_down.field-0 c.go_down.new.mesh.edges c.go_down.new.rounds) c.loop-rounds.invariant.points c.in_ok-go_down.ensures.ok in
    record {
      points = c.go_down.ensures.points ∙ c.loop-rounds.invariant.points;
      candidates = subst (λ ps. HasEachLower ps c.args.centre.now.edges c.go_down.new.mesh.edges c.go_down.new.candidates) (sym c.go_down.ensures.points) c.in_ok-go_down.ensures.candidates;
      rest =
          step_on c.args.mesh.now.points T.placed c.args.centre.now.edges c.loop-rounds.mesh.edges c.go_down.new.mesh.edges c.loop-rounds.rounds c.go_down.new.rounds c.in_ok-go_down.field-0 T.triangulation S c.args.mesh.now.edges c.if-branch.true
          c.loop-rounds.invariant.rest;
    }

pub returns-clause-ok : goal.returns-clause-ok
returns-clause-ok c =
    let T = subst (λ ps. IsTriangulated ps c.loop-rounds.mesh.edges) c.loop-rounds.invariant.points c.go_down.ensures.triangulated in
    let S = subst (λ ps. Descends ps c.args.centre.now.edges c.loop-rounds.mesh.edges c.loop-rounds.rounds c.in_ok-go_down.field-0 c.go_down.new.mesh.edges c.go_down.new.rounds) c.loop-rounds.invariant.points c.in_ok-go_down.ensures.ok in
    step_ends c.args.mesh.now.points T.placed c.args.centre.now.edges c.loop-rounds.mesh.edges c.go_down.new.mesh.edges c.loop-rounds.rounds c.go_down.new.rounds c.in_ok-go_down.field-0 T.triangulation S c.args.mesh.now.edges c.if-branch.false
    c.loop-rounds.invariant.rest
