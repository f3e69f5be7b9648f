-- A write into an ordered list of sides.
use Rattle.std.proofs.Common.{◌≡◌, ◌⊎◌, inl, inr, ℕ, zero, suc, ◌<◌, ◌≤◌, List, [], ◌∷◌, length, get_or, Contains, refl, sym, subst, arith}
use Rattle.std.proofs.Math.ListN.{set}
use Rattle.std.proofs.lemmas.List.Elements.{Contains-get_or}
use native.Mathlib.Decide.{dec_lt}
use Rattle.edge_table.specs.Edges.{IsBefore}
use Rattle.side_table.specs.declared.side.Side.{Side}
use Rattle.side_table.specs.Sides.{IsOrderedSides}
use Rattle.side_table.proofs.Ordered.{way, here, later, cases, tail, head, cons}

pub below_or : (k i : ℕ) → (k < i) ⊎ (i ≤ k)
below_or k i = by_test (dec_lt k i)
  where
    by_test : Dec (k < i) → (k < i) ⊎ (i ≤ k)
    by_test (yes l) = inl l
    by_test (no nl) = inr (omega arith)

module _ {X : Type 0} where
  pub set_cases : (es : List X) (e f : X) (i : ℕ) → Contains (set es i e) f → Contains es f ⊎ (f ≡ e)
  set_cases [] e f i h = inl h
  set_cases (x ∷ xs) e f zero h = by_cases (cases f e xs h)
    where
      by_cases : (e ≡ f) ⊎ Contains xs f → Contains (x ∷ xs) f ⊎ (f ≡ e)
      by_cases (inl k) = inr (sym k)
      by_cases (inr k) = inl (later f x xs k)
  set_cases (x ∷ xs) e f (suc i) h = by_cases (set_cases xs e f i) (cases f x (set xs i e) h)
    where
      again : Contains xs f ⊎ (f ≡ e) → Contains (x ∷ xs) f ⊎ (f ≡ e)
      again (inl k) = inl (later f x xs k)
      again (inr k) = inr k

      by_cases : (Contains (set xs i e) f → Contains xs f ⊎ (f ≡ e)) → (x ≡ f) ⊎ Contains (set xs i e) f → Contains (x ∷ xs) f ⊎ (f ≡ e)
      by_cases rec (inl k) = inl (here f x xs k)
      by_cases rec (inr k) = again (rec k)

  pub set_there : (es : List X) (e : X) (i : ℕ) → i < length es → Contains (set es i e) e
  set_there [] e i l = absurd (omega arith)
  set_there (x ∷ xs) e zero l = here e e xs refl
  set_there (x ∷ xs) e (suc i) l = later e x (set xs i e) (set_there xs e i (omega arith))

  pub set_kept : (es : List X) (e f d : X) (i : ℕ) → Contains es f → (get_or es i d ≡ f → ⊥) → Contains (set es i e) f
  set_kept [] e f d i h n = h
  set_kept (x ∷ xs) e f d zero h n = by_cases (cases f x xs h)
    where
      by_cases : (x ≡ f) ⊎ Contains xs f → Contains (e ∷ xs) f
      by_cases (inl k) = absurd (n k)
      by_cases (inr k) = later f e xs k
  set_kept (x ∷ xs) e f d (suc i) h n = by_cases (λ k. set_kept xs e f d i k n) (cases f x xs h)
    where
      by_cases : (Contains xs f → Contains (set xs i e) f) → (x ≡ f) ⊎ Contains xs f → Contains (x ∷ set xs i e) f
      by_cases rec (inl k) = here f x (set xs i e) k
      by_cases rec (inr k) = later f x (set xs i e) (rec k)

pub set_ordered : (ss : List Side) (t : Side) (i : ℕ) → IsOrderedSides ss → i < length ss → ((d : Side) → way (get_or ss i d) ≡ way t) → IsOrderedSides (set ss i t)
set_ordered [] t i up l e = absurd (omega arith)
set_ordered (x ∷ xs) t zero up l e = cons t xs (λ s k. subst (λ w. IsBefore w (way s)) (e x) (head x xs up s k)) (tail x xs up)
set_ordered (x ∷ xs) t (suc i) up l e = cons x (set xs i t) first (set_ordered xs t i (tail x xs up) (omega arith) e)
  where
    by_cases : (s : Side) → Contains xs s ⊎ (s ≡ t) → IsBefore (way x) (way s)
    by_cases s (inl m) = head x xs up s m
    by_cases s (inr m) = subst (λ s. IsBefore (way x) (way s)) (sym m) (subst (IsBefore (way x)) (e x) (head x xs up (get_or xs i x) (Contains-get_or xs i x (omega arith))))

    first : (s : Side) → Contains (set xs i t) s → IsBefore (way x) (way s)
    first s k = by_cases s (set_cases xs t s i k)
