-- Searches, and tests that they make.
use Rattle.std.proofs.Common.{◌≡◌, ◌⊎◌, inl, inr, ◌↔◌, ℕ, ◌+◌, ◌<◌, ◌≤◌, Bool, true, false, true≢false, List, length, get_or, Contains, Option, Some, None, MatchOption, MatchBool, is_some, not, slice_get, unwrap_or, sym, ap, ◌∙◌, subst, refl, arith}
use Rattle.std.specs.Bool.{IsTrue}
use Rattle.std.proofs.lemmas.Option.{get_or_from_slice_get}
use native.Mathlib.Decide.{dec_lt}
use Rattle.edge_table.specs.declared.edge.Edge.{Edge}
use Rattle.edge_table.specs.Edges.{IsBefore, IsAscending}
use Rattle.edge_table.proofs.Ascending.{not_before_itself, before_joins}
use Rattle.tri_check.specs.Stages.{IsLeast, IsNone, IsFirstEdge, AllBefore}

pub refuted : (b : Bool) (P : Type 0) → IsTrue b ↔ P → b ≡ false → ¬ P
refuted b P t e h = true≢false (sym (t.1 h) ∙ e)

pub split : (i k : ℕ) → k < i + 1 → (k < i) ⊎ (k ≡ i)
split i k h = by_test (dec_lt k i)
  where
    by_test : Dec (k < i) → (k < i) ⊎ (k ≡ i)
    by_test (yes l) = inl l
    by_test (no n) = inr (omega arith)

pub none_more : (P : ℕ → Type 0) (i : ℕ) → ((k : ℕ) → k < i → ¬ P k) → ¬ P i → (k : ℕ) → k < i + 1 → ¬ P k
none_more P i below here k h = by_cases (split i k h)
  where
    by_cases : (k < i) ⊎ (k ≡ i) → ¬ P k
    by_cases (inl l) = below k l
    by_cases (inr e) = λ p. here (subst P e p)

pub all_more : (P : ℕ → Type 0) (i : ℕ) → ((k : ℕ) → k < i → P k) → P i → (k : ℕ) → k < i + 1 → P k
all_more P i below here k h = by_cases (split i k h)
  where
    by_cases : (k < i) ⊎ (k ≡ i) → P k
    by_cases (inl l) = below k l
    by_cases (inr e) = subst P (sym e) here

pub none_test : (n : ℕ) (P : ℕ → Type 0) (o : Option ℕ) (b : Bool) → is_some o ≡ not b → MatchOption o (IsNone n P) (IsLeast n P) → IsTrue b ↔ IsNone n P
none_test n P None true e h = (λ _. h, λ _. refl)
none_test n P None false e h = absurd (true≢false (sym e))
none_test n P (Some x) true e h = absurd (true≢false e)
none_test n P (Some x) false e h = (λ t. absurd (true≢false (sym t)), λ none. absurd (none x h.below h.holds))

pub on_true : (b : Bool) (P Q : Type 0) → MatchBool b P Q → b ≡ true → P
on_true true P Q h e = h
on_true false P Q h e = absurd (true≢false (sym e))

pub on_false : (b : Bool) (P Q : Type 0) → MatchBool b P Q → b ≡ false → Q
on_false true P Q h e = absurd (true≢false e)
on_false false P Q h e = h

pub on_some : {X : Type 0} (o : Option X) (P : Type 0) (Q : X → Type 0) (x : X) → MatchOption o P Q → o ≡ Some x → Q x
on_some None P Q x h e = cc
on_some (Some y) P Q x h e = subst Q (ap (λ p. unwrap_or p y) e) h

pub on_none : {X : Type 0} (o : Option X) (P : Type 0) (Q : X → Type 0) → MatchOption o P Q → ((x : X) → ¬ (o ≡ Some x)) → P
on_none None P Q h n = h
on_none (Some y) P Q h n = absurd (n y refl)

-- ---- members by their places
pub all_before_more : (edges : List Edge) (P : Edge → Type 0) (i : ℕ) (e : Edge) → slice_get edges i ≡ Some e → AllBefore edges P i → P e → AllBefore edges P (i + 1)
all_before_more edges P i e at below here k d h = by_cases (split i k h)
  where
    by_cases : (k < i) ⊎ (k ≡ i) → P (get_or edges k d)
    by_cases (inl l) = below k d l
    by_cases (inr s) = subst P (sym (subst (λ j. get_or edges j d ≡ e) (sym s) (get_or_from_slice_get edges i e d at))) here

pub all_at_end : (edges : List Edge) (P : Edge → Type 0) (i : ℕ) → length edges ≤ i → AllBefore edges P i → (e : Edge) → Contains edges e → P e
all_at_end edges P i end below e (k, l, h) = subst P h (below k e (omega arith))

pub contains_at : (edges : List Edge) (i : ℕ) (e : Edge) → slice_get edges i ≡ Some e → i < length edges → Contains edges e
contains_at edges i e at l = (i, l, get_or_from_slice_get edges i e e at)

-- ---- members of an ascending list by their places

-- the member at an earlier place comes before
pub before_at : (edges : List Edge) → IsAscending edges → (d : Edge) (i j : ℕ) → i < j → j < length edges → IsBefore (get_or edges i d) (get_or edges j d)
before_at edges up d i j h k = up i j d h k

-- the place of what comes before an edge is lower
pub place_before : (edges : List Edge) → IsAscending edges → (e f : Edge) (i j : ℕ) → i < length edges → get_or edges i e ≡ e → get_or edges j f ≡ f → j < length edges → IsBefore f e → (d : Edge) → get_or edges i d ≡ e → get_or edges j d ≡ f → j < i
place_before edges up e f i j hi ei ej hj b d ai aj = by_test (dec_lt j i) (dec_lt i j)
  where
    by_test : Dec (j < i) → Dec (i < j) → j < i
    by_test (yes l) _ = l
    by_test (no n) (yes l) = absurd (not_before_itself f (before_joins f e f b (subst (IsBefore e) aj (subst (λ g. IsBefore g (get_or edges j d)) ai (before_at edges up d i j l hj)))))
    by_test (no n) (no m) = absurd (not_before_itself e (subst (λ g. IsBefore g e) (sym aj ∙ subst (λ k. get_or edges k d ≡ e) same ai) b))
      where
        same : i ≡ j
        same = omega arith

pub first_at : (edges : List Edge) (P : Edge → Type 0) (i : ℕ) (e : Edge) → IsAscending edges → i < length edges → slice_get edges i ≡ Some e → AllBefore edges (λ f. ¬ P f) i → P e → IsFirstEdge edges P e
first_at edges P i e up l at below here = record { member = contains_at edges i e at l; holds = here; first = λ f h b. first f h b }
  where
    at_e : (d : Edge) → get_or edges i d ≡ e
    at_e d = get_or_from_slice_get edges i e d at

    first : (f : Edge) → Contains edges f → IsBefore f e → ¬ P f
    first f (j, hj, fj) b = subst (λ g. ¬ P g) fj (below j f (place_before edges up e f i j l (at_e e) fj hj b f (at_e f) fj))

-- what stands up to a place isn't after it
pub not_after : (edges : List Edge) (i : ℕ) (e : Edge) → IsAscending edges → i < length edges → slice_get edges i ≡ Some e → (k : ℕ) (d : Edge) → k < i + 1 → ¬ IsBefore e (get_or edges k d)
not_after edges i e up l at k d h b = by_cases (split i k h)
  where
    at_e : get_or edges i d ≡ e
    at_e = get_or_from_slice_get edges i e d at

    by_cases : (k < i) ⊎ (k ≡ i) → ⊥
    by_cases (inl m) = not_before_itself e (before_joins e (get_or edges k d) e b (subst (IsBefore (get_or edges k d)) at_e (before_at edges up d k i m l)))
    by_cases (inr s) = not_before_itself e (subst (IsBefore e) (subst (λ j. get_or edges j d ≡ e) (sym s) at_e) b)

pub later : (edges : List Edge) (i j : ℕ) (e f : Edge) → IsAscending edges → i < j → j < length edges → slice_get edges i ≡ Some e → slice_get edges j ≡ Some f → IsBefore e f
later edges i j e f up h l at bt = subst (IsBefore e) (get_or_from_slice_get edges j f e bt) (subst (λ g. IsBefore g (get_or edges j e)) (get_or_from_slice_get edges i e e at) (before_at edges up e i j h l))
