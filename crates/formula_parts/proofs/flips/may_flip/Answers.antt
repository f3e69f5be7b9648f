use Rattle.std.proofs.Common.{true≢false, sym, subst, subst₂}
use Rattle.tri_theory.specs.Points.{IsLeft}
use Rattle.tri_check.proofs.Searches.{refuted}
use Rattle.formula_parts.proofs.Quads.{flips_cross, flip_left, flip_right, joined, named, ends, left_side, other_way}
use Rattle.formula_parts.proofs.flips.may_flip.Goals as goal

pub returns-then-not-crosses : goal.returns-then-not-crosses
returns-then-not-crosses c = (λ t. absurd (true≢false (sym t)), λ m. absurd (refuted _ _ c.crosses.ensures c.if-not-crosses.true (flips_cross c.args.inst.now.points c.args.e c.args.f m)))

pub is_empty-requires-clause-left : goal.is_empty-requires-clause-left
is_empty-requires-clause-left c =
    left_side c.args.inst.now.points c.count.ensures.problem.placed c.low-a.result c.low-b.result c.high-c.result c.high-d.result
    (ends c.args.inst.now.points c.low-a.ensures.low c.low-b.ensures.low c.high-c.ensures.high c.high-d.ensures.high (c.crosses.ensures.0 c.if-not-crosses.false).0) (c.is_left.ensures.0 c.if-is_left.true)

pub is_empty-requires-else-is_left-clause-right : goal.is_empty-requires-else-is_left-clause-right
is_empty-requires-else-is_left-clause-right c =
    (other_way c.args.inst.now.points c.count.ensures.problem.placed c.low-a.result c.low-b.result c.high-c.result c.high-d.result
    (ends c.args.inst.now.points c.low-a.ensures.low c.low-b.ensures.low c.high-c.ensures.high c.high-d.ensures.high (c.crosses.ensures.0 c.if-not-crosses.false).0) (refuted _ _ c.is_left.ensures c.if-is_left.false)).0

pub is_empty-requires-else-is_left-clause-left : goal.is_empty-requires-else-is_left-clause-left
is_empty-requires-else-is_left-clause-left c =
    (other_way c.args.inst.now.points c.count.ensures.problem.placed c.low-a.result c.low-b.result c.high-c.result c.high-d.result
    (ends c.args.inst.now.points c.low-a.ensures.low c.low-b.ensures.low c.high-c.ensures.high c.high-d.ensures.high (c.crosses.ensures.0 c.if-not-crosses.false).0) (refuted _ _ c.is_left.ensures c.if-is_left.false)).1

pub returns-then-is_left : goal.returns-then-is_left
returns-then-is_left c =
    joined (named c.args.inst.now.points c.low-a.ensures.low c.low-b.ensures.low c.high-c.ensures.high c.high-d.ensures.high c.is_empty.ensures)
    (flip_left c.args.inst.now.points c.count.ensures.problem.placed c.args.e c.args.f c.requires.from c.requires.to (c.crosses.ensures.0 c.if-not-crosses.false)
    (subst (λ a. IsLeft c.args.inst.now.points a c.args.f.0 c.args.e.1) c.low-a.ensures.low (subst₂ (λ b d. IsLeft c.args.inst.now.points c.low-a.result b d) c.low-b.ensures.low c.high-c.ensures.high (c.is_left.ensures.0 c.if-is_left.true))))

pub returns-else-is_left : goal.returns-else-is_left
returns-else-is_left c =
    joined (named c.args.inst.now.points c.low-a.ensures.low c.high-d.ensures.high c.high-c.ensures.high c.low-b.ensures.low c.is_empty-else-is_left.ensures)
    (flip_right c.args.inst.now.points c.count.ensures.problem.placed c.args.e c.args.f c.requires.from c.requires.to (c.crosses.ensures.0 c.if-not-crosses.false)
    (λ t. refuted _ _ c.is_left.ensures c.if-is_left.false (subst (λ a. IsLeft c.args.inst.now.points a c.low-b.result c.high-c.result) (sym c.low-a.ensures.low) (subst₂ (λ b d. IsLeft c.args.inst.now.points c.args.e.0 b d) (sym c.low-b.ensures.low) (sym c.high-c.ensures.high) t))))
