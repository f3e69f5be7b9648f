use Rattle.std.proofs.Common.{◌∙◌, ◌+◌, ◌%◌, Some, [], ◌∷◌, ◌++◌, map, refl, ap, ap₂, arith}
use Rattle.plan_law.specs.Improvers.{picked}
use Rattle.plan_moves.proofs.Walked.{picks_single, picks_later}
use Rattle.plan_moves.proofs.walking.picked_move.Goals as goal

pub returns-then-place-len : goal.returns-then-place-len
returns-then-place-len c =
    ap Some (c.in_ok-push.ensures.ok ∙ ap (λ es. es ++ c.at.result.now ∷ []) c.make-edges.ensures)
    ∙ (picks_single c.in_ok-singles.singles c.in_ok-lasts.lasts c.args.word (c.len.result + c.len-2.result) _ (ap₂ ◌+◌ c.len.ensures c.len-2.ensures) refl c.at.result.now c.at.ensures
    ∙ ap₂ (λ es ms. picked (map (λ e. e ∷ []) es ++ ms) c.args.word) c.in_ok-singles.ensures c.in_ok-lasts.ensures)

pub returns : goal.returns
returns c =
    ap Some c.in_ok-copy.ensures
    ∙ (picks_later c.in_ok-singles.singles c.in_ok-lasts.lasts c.args.word (c.len.result + c.len-2.result) (c.args.word % (c.len.result + c.len-2.result)) (ap₂ ◌+◌ c.len.ensures c.len-2.ensures) refl _ c.at-2.result.now (omega (arith, c.len-3.ensures, c.len-4.ensures, c.if-place-len.false)) c.at-2.ensures
    ∙ ap₂ (λ es ms. picked (map (λ e. e ∷ []) es ++ ms) c.args.word) c.in_ok-singles.ensures c.in_ok-lasts.ensures)
