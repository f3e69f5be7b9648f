use Rattle.std.proofs.Common.{◌≡◌, ◌∙◌, false, true≢false, sym, ap, subst}
use Rattle.std.specs.Prelude.{not}
use Rattle.tri_theory.specs.Flips.{Flips}
use Rattle.plan_core.specs.Trials.{all_flip}
use Rattle.plan_core.proofs.Deciding.{decided}
use Rattle.plan_core.proofs.Trials.{mesh_stops, mesh_on}
use Rattle.plan_core.proofs.trial.flip_in_turn.Goals as goal

pub returns-then-is_none : goal.returns-then-is_none
returns-then-is_none c =
    let n : ¬ Flips c.loop-e.mesh.points c.loop-e.mesh.edges c.e-item.result =
    (λ f. true≢false (sym ((decided c.quad.result (Flips c.loop-e.mesh.points c.loop-e.mesh.edges c.e-item.result) c.quad.ensures.none c.quad.ensures.flips).1 f) ∙ (c.is_none.ensures ∙ ap not c.if-is_none.true))) in
    subst (λ es. false ≡ all_flip c.args.mesh.now.points c.args.mesh.now.edges es) c.as_slice-e-items.ensures
    (mesh_stops c.as_slice-e-items.result.now c.loop-e.e-index c.args.mesh.now.points c.args.mesh.now.edges c.loop-e.mesh.points c.loop-e.mesh.edges c.points.ensures.triangulation.placed c.loop-e.invariant c.e-item.result c.loop-e-test.true c.e-item.is n)

pub loop-e-preserved : goal.loop-e-preserved
loop-e-preserved c =
    mesh_on c.as_slice-e-items.result.now c.loop-e.e-index c.args.mesh.now.points c.args.mesh.now.edges c.loop-e.mesh.points c.loop-e.mesh.edges c.points.ensures.triangulation.placed c.loop-e.invariant c.e-item.result c.loop-e-test.true c.e-item.is
    c.flip.new.self.points c.flip.new.self.edges c.flip.result c.flip.ensures.points c.flip.ensures.edges
