-- A set of edges by a tree: what an insertion, a removal and the least key mean for its members.
use Rattle.std.proofs.Common.{◌≡◌, ◌≢◌, ◌∙◌, ◌⊎◌, inl, inr, ◌↔◌, true, false, true≢false, cond, Contains, sym, ap, subst}
use Rattle.std.specs.Bool.{IsTrue}
use Rattle.std.specs.BTreeSet.{BTreeSet, contains, Updates, IsLowerBound}
use Rattle.std.specs.Ordering.{is_eq, is_gt}
use Rattle.std.proofs.lemmas.Map.Views.{btree_set_contains_iff}
use Rattle.edge_table.specs.declared.edge.Edge.{Edge}
use Rattle.edge_table.specs.Edges.{IsBefore, AddsEdge, RemovesEdge}
use Rattle.edge_table.specs.Order.{edge_cmp}
use Rattle.edge_table.proofs.Ascending.{before_cases, not_before_itself}
use Rattle.edge_table.proofs.Searches.{edges_total, cmp_same, cmp_before, cmp_after, same_by}
use Rattle.lawson_start.specs.Steps.{IsFirst}

holds : (s : BTreeSet Edge) (f : Edge) → IsTrue (contains edge_cmp s f) ↔ Contains s.keys f
holds s f = btree_set_contains_iff edges_total same_by s f

at_or : (e f : Edge) → ((f ≡ e) × (is_eq (edge_cmp e f) ≡ true)) ⊎ ((f ≢ e) × (is_eq (edge_cmp e f) ≡ false))
at_or e f = by_cases (before_cases e f)
  where
    by_cases : (e ≡ f) ⊎ (IsBefore e f ⊎ IsBefore f e) → ((f ≡ e) × (is_eq (edge_cmp e f) ≡ true)) ⊎ ((f ≢ e) × (is_eq (edge_cmp e f) ≡ false))
    by_cases (inl i) = inl (sym i, ap is_eq (cmp_same e f i))
    by_cases (inr (inl l)) = inr (λ i. not_before_itself e (subst (IsBefore e) i l), ap is_eq (cmp_before e f l))
    by_cases (inr (inr l)) = inr (λ i. not_before_itself e (subst (λ g. IsBefore g e) i l), ap is_eq (cmp_after e f l))

pub added : (s n : BTreeSet Edge) (e : Edge) → Updates edge_cmp s n e true → AddsEdge s.keys n.keys e
added s n e u f = by_place (at_or e f)
  where
    Added : Type 0
    Added = Contains n.keys f ↔ (Contains s.keys f ⊎ (f ≡ e))

    kept : contains edge_cmp n f ≡ contains edge_cmp s f → f ≢ e → Added
    kept w ne = (λ k. inl ((holds s f).0 (sym w ∙ (holds n f).1 k)), elim [ inl k ↦ (holds n f).0 (w ∙ (holds s f).1 k) | inr i ↦ absurd (ne i) ])

    by_place : ((f ≡ e) × (is_eq (edge_cmp e f) ≡ true)) ⊎ ((f ≢ e) × (is_eq (edge_cmp e f) ≡ false)) → Added
    by_place (inl (i, w)) = (λ _. inr i, λ _. (holds n f).0 (u.0 f ∙ ap (λ b. cond b true (contains edge_cmp s f)) w))
    by_place (inr (ne, w)) = kept (u.0 f ∙ ap (λ b. cond b true (contains edge_cmp s f)) w) ne

pub removed : (s n : BTreeSet Edge) (e : Edge) → Updates edge_cmp s n e false → RemovesEdge s.keys n.keys e
removed s n e u f = by_place (at_or e f)
  where
    Removed : Type 0
    Removed = Contains n.keys f ↔ (Contains s.keys f × (f ≢ e))

    kept : contains edge_cmp n f ≡ contains edge_cmp s f → f ≢ e → Removed
    kept w ne = (λ k. ((holds s f).0 (sym w ∙ (holds n f).1 k), ne), λ k. (holds n f).0 (w ∙ (holds s f).1 k.0))

    by_place : ((f ≡ e) × (is_eq (edge_cmp e f) ≡ true)) ⊎ ((f ≢ e) × (is_eq (edge_cmp e f) ≡ false)) → Removed
    by_place (inl (i, w)) = (λ k. absurd (true≢false (sym ((holds n f).1 k) ∙ u.0 f ∙ ap (λ b. cond b false (contains edge_cmp s f)) w)), λ k. absurd (k.1 i))
    by_place (inr (ne, w)) = kept (u.0 f ∙ ap (λ b. cond b false (contains edge_cmp s f)) w) ne

pub least : (s : BTreeSet Edge) (e : Edge) → IsTrue (contains edge_cmp s e) → IsLowerBound edge_cmp s e → IsFirst s.keys e
least s e k low = record {
  member = (holds s e).0 k;
  first = λ f h l. true≢false (sym (ap is_gt (cmp_after e f l)) ∙ low f ((holds s f).1 h));
}
