use Rattle.std.proofs.Common.{◌≡◌, ◌∙◌, [], ◌∷◌, ◌++◌, length, Some, slice_get, sym, ap, subst, subst₂}
use Rattle.std.specs.List.{AllZip}
use Rattle.tri_check.specs.Problems.{Problem}
use Rattle.plan_core.specs.HeldPlans.{LeadsTo}
use Rattle.plan_moves.proofs.Lowered.{alone}
use Rattle.plan_tests.proofs.openings.opened.Goals as goal

pub opening-requires-clause-tracks : goal.opening-requires-clause-tracks
opening-requires-clause-tracks g c =
    let one : length c.args.inst.value.inputs ≡ 1 = subst (λ (p : Problem). length p.inputs ≡ 1) c.deref.ensures c.expect_one_input.ensures in
    let here : slice_get c.args.inst.value.inputs 0 ≡ Some c.input.result.now.edges = subst (λ (p : Problem). slice_get p.inputs 0 ≡ Some c.input.result.now.edges) c.deref-2.ensures c.input.ensures.edges in
    let leads : LeadsTo c.args.inst.value.points c.in_ok-centre.centre.edges c.input.result.now.edges c.in_ok-track.track =
    record { of_points = c.in_ok-track.ensures.points ∙ (c.input.ensures.points ∙ ap (λ (p : Problem). p.points) c.deref-2.ensures); from = c.in_ok-track.ensures.start; to = sym c.in_ok-centre.ensures.edges } in
    subst₂ (AllZip (LeadsTo c.args.inst.value.points c.in_ok-centre.centre.edges)) (sym (alone c.args.inst.value.inputs c.input.result.now.edges one here)) (sym (c.in_ok-push.ensures.ok ∙ ap (λ ts. ts ++ c.in_ok-track.track ∷ []) c.make-tracks.ensures))
    (leads, tt)
