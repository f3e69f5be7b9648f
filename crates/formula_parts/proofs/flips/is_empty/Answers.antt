use Rattle.std.proofs.Common.{◌∙◌, true≢false, sym}
use Rattle.tri_check.proofs.Searches.{refuted}
use Rattle.formula_parts.proofs.Quads.{empty_of_points_iff}
use Rattle.formula_parts.proofs.flips.is_empty.Goals as goal

pub returns-then-holds_none : goal.returns-then-holds_none
returns-then-holds_none c =
    let B = empty_of_points_iff c.args.inst.now.points c.count.ensures.problem.placed c.args.a c.args.b c.args.c c.args.d c.requires.right c.requires.left in
    (λ t. B.0 (c.holds_none.ensures.0 c.if-holds_none.true, c.holds_none-then-holds_none.ensures.0 t), λ h. c.holds_none-then-holds_none.ensures.1 (B.1 h).1)

pub returns-else-holds_none : goal.returns-else-holds_none
returns-else-holds_none c =
    let B = empty_of_points_iff c.args.inst.now.points c.count.ensures.problem.placed c.args.a c.args.b c.args.c c.args.d c.requires.right c.requires.left in
    (λ t. absurd (true≢false (sym t ∙ c.if-holds_none.false)), λ h. absurd (refuted _ _ c.holds_none.ensures c.if-holds_none.false (B.1 h).0))
