use Rattle.std.proofs.Common.{true≢false, sym}
use Rattle.tri_check.proofs.Searches.{refuted}
use Rattle.tri_check.proofs.network.is_triangle.Goals as goal

pub returns-then-not-are_joined : goal.returns-then-not-are_joined
returns-then-not-are_joined c = (λ t. absurd (true≢false (sym t)), λ k. absurd (refuted _ _ c.are_joined.ensures c.if-not-are_joined.true k.bc))

pub returns-then-not-are_joined-2 : goal.returns-then-not-are_joined-2
returns-then-not-are_joined-2 c = (λ t. absurd (true≢false (sym t)), λ k. absurd (refuted _ _ c.are_joined-2.ensures c.if-not-are_joined-2.true k.ca))

pub returns-then-not-is_left : goal.returns-then-not-is_left
returns-then-not-is_left c = (λ t. absurd (true≢false (sym t)), λ k. absurd (refuted _ _ c.is_left.ensures c.if-not-is_left.true k.turns))

pub returns : goal.returns
returns c = (
  λ t. record {
    turns = c.is_left.ensures.0 c.if-not-is_left.false;
    ab = c.requires.joined;
    bc = c.are_joined.ensures.0 c.if-not-are_joined.false;
    ca = c.are_joined-2.ensures.0 c.if-not-are_joined-2.false;
    empty = c.is_empty.ensures.0 t;
  },
  λ k. c.is_empty.ensures.1 k.empty,
)
