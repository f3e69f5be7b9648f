use Rattle.std.proofs.Common.{◌∙◌, [], ◌∷◌, ◌++◌, true≢false, sym, ap, subst}
use Rattle.tri_theory.specs.Rounds.{IsRound}
use Rattle.flip_list_law.specs.FlipLists.{flipped_edges}
use Rattle.replay.specs.Independent.{AreIndependent}
use Rattle.plan_moves.specs.Rounds.{HasEachLower, HasEachNeighbour}
use Rattle.plan_moves.proofs.Choices.{next_candidates}
use Rattle.plan_moves.proofs.GreedyRounds.{independent, after_is}
use Rattle.plan_moves.proofs.descending.go_down.Goals as goal

pub neighbours-requires : goal.neighbours-requires
neighbours-requires c =
    subst (AreIndependent c.args.mesh.now.points c.args.mesh.now.edges) (sym c.in_ok-round.ensures) (independent _ c.points.ensures.triangulation.placed _ c.points.ensures.triangulation.triangulation c.args.centre.now.edges)

pub flip_round-requires-clause-independent : goal.flip_round-requires-clause-independent
flip_round-requires-clause-independent c =
    subst (AreIndependent c.args.mesh.now.points c.args.mesh.now.edges) (sym c.in_ok-round.ensures) (independent _ c.points.ensures.triangulation.placed _ c.points.ensures.triangulation.triangulation c.args.centre.now.edges)

pub returns-clause-candidates : goal.returns-clause-candidates
returns-clause-candidates c =
    let P = c.points.ensures.triangulation.placed in
    let I = c.points.ensures.triangulation.triangulation in
    let H = subst (λ r. HasEachNeighbour c.args.mesh.now.points c.args.mesh.now.edges r c.in_ok-candidates.field-0) c.in_ok-round.ensures c.in_ok-candidates.ensures in
    subst (λ edges. HasEachLower c.args.mesh.now.points c.args.centre.now.edges edges c.in_ok-candidates.field-0)
    (sym (after_is _ P _ I c.args.centre.now.edges c.flip_round.new.mesh.edges (subst (λ r. IsRound c.args.mesh.now.points c.args.mesh.now.edges r c.flip_round.new.mesh.edges) c.in_ok-round.ensures c.flip_round.ensures.round)))
    (next_candidates _ P _ I c.args.centre.now.edges c.in_ok-candidates.field-0 H)

pub returns-clause-ok : goal.returns-clause-ok
returns-clause-ok c = (
  λ e. true≢false (sym (c.is_empty.ensures.1 (c.in_ok-round.ensures ∙ ap flipped_edges e)) ∙ c.if-is_empty.false),
  after_is _ c.points.ensures.triangulation.placed _ c.points.ensures.triangulation.triangulation c.args.centre.now.edges c.flip_round.new.mesh.edges
      (subst (λ r. IsRound c.args.mesh.now.points c.args.mesh.now.edges r c.flip_round.new.mesh.edges) c.in_ok-round.ensures c.flip_round.ensures.round),
  c.in_ok-push.ensures.ok ∙ ap (λ r. c.args.rounds.now ++ r ∷ []) c.in_ok-round.ensures,
)
