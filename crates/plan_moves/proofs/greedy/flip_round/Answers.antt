use Rattle.std.proofs.Common.{◌∙◌, sym, subst}
use Rattle.tri_theory.specs.Flips.{Flips, IsFlip}
use Rattle.replay.specs.Independent.{AreIndependent}
use Rattle.replay.proofs.Flipping.{still_flips, round_more}
use Rattle.plan_moves.proofs.greedy.flip_round.Goals as goal

pub flip-requires : goal.flip-requires
flip-requires c =
    let A : AreIndependent c.args.mesh.now.points c.args.mesh.now.edges c.as_slice-e-items.result.now = subst (AreIndependent c.args.mesh.now.points c.args.mesh.now.edges) (sym c.as_slice-e-items.ensures) c.requires.independent in
    subst (λ ps. Flips ps c.loop-e.mesh.edges c.e-item.result) (sym c.loop-e.invariant.points)
    (still_flips _ c.requires.triangulated.placed _ c.requires.triangulated.triangulation _ _ c.loop-e.e-index c.e-item.result A c.loop-e-test.true c.e-item.is c.loop-e.invariant.round)

pub loop-e-preserved : goal.loop-e-preserved
loop-e-preserved c =
    let A : AreIndependent c.args.mesh.now.points c.args.mesh.now.edges c.as_slice-e-items.result.now = subst (AreIndependent c.args.mesh.now.points c.args.mesh.now.edges) (sym c.as_slice-e-items.ensures) c.requires.independent in
    let X : IsFlip c.args.mesh.now.points c.loop-e.mesh.edges c.e-item.result c.flip.result c.flip.new.self.edges =
    subst (λ ps. IsFlip ps c.loop-e.mesh.edges c.e-item.result c.flip.result c.flip.new.self.edges) c.loop-e.invariant.points c.flip.ensures.edges in
    record {
      points = c.flip.ensures.points ∙ c.loop-e.invariant.points;
      round = round_more _ c.requires.triangulated.placed _ c.requires.triangulated.triangulation _ _ c.loop-e.e-index c.e-item.result A c.loop-e-test.true c.e-item.is c.loop-e.invariant.round _ _ X;
    }
