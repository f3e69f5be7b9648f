-- Sides at their places: what a put does to an ordered list.
use Rattle.std.proofs.Common.{◌≡◌, ◌∙◌, ◌⊎◌, inl, inr, ◌↔◌, ℕ, zero, suc, ◌+◌, ◌<◌, ◌≤◌, List, [], ◌∷◌, length, get_or, Contains, refl, sym, ap, subst, arith, Bool, true, false, true≢false}
use Rattle.std.specs.Bool.{IsTrue}
use Rattle.std.proofs.lemmas.List.Elements.{Contains-get_or}
use native.Mathlib.Decide.{ℕ_discrete}
use Rattle.edge_table.specs.Edges.{IsBefore}
use Rattle.edge_table.specs.declared.edge.Edge.{Edge}
use Rattle.edge_table.proofs.Ascending.{before_joins, not_before_itself, before_cases}
use Rattle.side_table.specs.declared.side.Side.{Side}
use Rattle.side_table.specs.Sides.{side, IsWay, HasSide, IsOrderedSides}
use Rattle.flip_mesh.specs.Places.{IsSideAt, SideBelongsAt}
use Rattle.flip_mesh.proofs.Writes.{below_or}
use Rattle.side_table.proofs.Ordered.{way}
use Rattle.side_table.proofs.Parts.{way_is}

pub dec_way : (s : Side) (u v : ℕ) → Dec (IsWay s u v)
dec_way s u v = by_tests (ℕ_discrete s.from u) (ℕ_discrete s.to v)
  where
    by_tests : Dec (s.from ≡ u) → Dec (s.to ≡ v) → Dec (IsWay s u v)
    by_tests (yes h) (yes k) = yes (h, k)
    by_tests (no n) _ = no (λ w. n w.0)
    by_tests (yes h) (no n) = no (λ w. n w.1)

way_at : (ss : List Side) (u v i : ℕ) (d : Side) → IsSideAt ss u v i → way (get_or ss i d) ≡ (u, v)
way_at ss u v i d h = way_is (get_or ss i d) u v (h.from d, h.to d)

-- ---- searching
pub before_all : (ss : List Side) (u v m : ℕ) → IsOrderedSides ss → m < length ss → ((d : Side) → IsBefore (way (get_or ss m d)) (u, v)) → (k : ℕ) (d : Side) → k < m + 1 → IsBefore (way (get_or ss k d)) (u, v)
before_all ss u v m up l h k d r = by_test (ℕ_discrete k m)
  where
    by_test : Dec (k ≡ m) → IsBefore (way (get_or ss k d)) (u, v)
    by_test (yes e) = subst (λ j. IsBefore (way (get_or ss j d)) (u, v)) (sym e) (h d)
    by_test (no n) = before_joins _ _ _ (up k m d (omega arith) l) (h d)

pub after_all : (ss : List Side) (u v m : ℕ) → IsOrderedSides ss → ((d : Side) → IsBefore (u, v) (way (get_or ss m d))) → (k : ℕ) (d : Side) → m ≤ k → k < length ss → IsBefore (u, v) (way (get_or ss k d))
after_all ss u v m up h k d r l = by_test (ℕ_discrete k m)
  where
    by_test : Dec (k ≡ m) → IsBefore (u, v) (way (get_or ss k d))
    by_test (yes e) = subst (λ j. IsBefore (u, v) (way (get_or ss j d))) (sym e) (h d)
    by_test (no n) = before_joins _ _ _ (h d) (up m k d (omega arith) l)

pub at_there : (ss : List Side) (u v i : ℕ) (d : Side) → IsSideAt ss u v i → HasSide ss u v
at_there ss u v i d h = let s = get_or ss i d in record { apex = s.apex; there = subst (Contains ss) (same s (h.from d) (h.to d)) (Contains-get_or ss i d h.within) }
  where
    same : (s : Side) → s.from ≡ u → s.to ≡ v → s ≡ side u v s.apex
    same s e f = λ i. record { from = e i; to = f i; apex = s.apex }

pub not_there : (ss : List Side) (u v i : ℕ) → SideBelongsAt ss u v i → ¬ HasSide ss u v
not_there ss u v i h p = clash p.there
  where
    clash : Contains ss (side u v p.apex) → ⊥
    clash (k, l, e) = by_place (below_or k i)
      where
        by_place : (k < i) ⊎ (i ≤ k) → ⊥
        by_place (inl low) = not_before_itself (u, v) (subst (λ s. IsBefore (way s) (u, v)) e (h.below k (side u v p.apex) low))
        by_place (inr high) = not_before_itself (u, v) (subst (λ s. IsBefore (u, v) (way s)) e (h.above k (side u v p.apex) high l))

-- ---- what a test of the middle tells
any_default : (ss : List Side) (m : ℕ) (d e : Side) → m < length ss → get_or ss m d ≡ get_or ss m e
any_default [] m d e l = absurd (omega arith)
any_default (x ∷ xs) zero d e l = refl
any_default (x ∷ xs) (suc m) d e l = any_default xs m d e (omega arith)

-- the middle comes before the way: so do all up to it
pub before_middle : (ss : List Side) (u v m : ℕ) (d : Side) (b : Bool) → IsOrderedSides ss → m < length ss → IsTrue b ↔ IsBefore (way (get_or ss m d)) (u, v) → b ≡ true
    → (k : ℕ) (e : Side) → k < m + 1 → IsBefore (way (get_or ss k e)) (u, v)
before_middle ss u v m d b up l t h = before_all ss u v m up l (λ e. subst (λ s. IsBefore (way s) (u, v)) (any_default ss m d e l) (t.0 h))

-- it neither comes before it nor is on it: all from it on come after it
pub after_middle : (ss : List Side) (u v m : ℕ) (d d' : Side) (a b : Bool) → IsOrderedSides ss → m < length ss
    → IsTrue a ↔ IsWay (get_or ss m d) u v → a ≡ false → IsTrue b ↔ IsBefore (way (get_or ss m d')) (u, v) → b ≡ false
    → (k : ℕ) (e : Side) → m ≤ k → k < length ss → IsBefore (u, v) (way (get_or ss k e))
after_middle ss u v m d d' a b up l t h r g = after_all ss u v m up (λ e. by_cases e (before_cases (way (get_or ss m e)) (u, v)))
  where
    by_cases : (e : Side) → (way (get_or ss m e) ≡ (u, v)) ⊎ (IsBefore (way (get_or ss m e)) (u, v) ⊎ IsBefore (u, v) (way (get_or ss m e))) → IsBefore (u, v) (way (get_or ss m e))
    by_cases e (inl i) = absurd (true≢false (sym (t.1 (subst (λ s. IsWay s u v) (any_default ss m e d l) (ap (λ (p : Edge). p.0) i, ap (λ (p : Edge). p.1) i))) ∙ h))
    by_cases e (inr (inl i)) = absurd (true≢false (sym (r.1 (subst (λ s. IsBefore (way s) (u, v)) (any_default ss m e d' l) i)) ∙ g))
    by_cases e (inr (inr i)) = i
