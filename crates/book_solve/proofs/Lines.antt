-- What passes a test in a list, and the moves and swaps of a journal.
use Rattle.std.proofs.Common.{◌≡◌, ◌∙◌, ℕ, zero, suc, ◌<◌, ◌≤◌, Bool, true, false, cond, Some, List, [], ◌∷◌, length, take, drop, filter, All, refl, sym, ap, subst, arith}
use Rattle.std.specs.Prelude.{slice_get, count_by}
use Rattle.std.proofs.lemmas.List.{take-append-drop}
use Rattle.std.proofs.lemmas.List.Elements.{filter-append, All-tail}
use Rattle.std.proofs.lemmas.List.Sums.{length-filter}
use Rattle.std.proofs.Math.Seq.{take-append_seam}
use Rattle.plan_law.specs.Books as law
use Rattle.plan_law.specs.Books.{State, is_plan_entry, after_entry, state_after}
use Rattle.book_core.specs.declared.entry.Entry.{Entry}
use Rattle.book_core.specs.Entries.{Shown, line_of, lines_of}
use Rattle.worker_pool.proofs.Ordered.{same}

-- ---- lists
module _ {X : Type 0} where
  pub there_is : (xs : List X) (n : ℕ) → n < length xs → (x : X) × (slice_get xs n ≡ Some x)
  there_is [] n l = absurd (omega (arith, l))
  there_is (x ∷ xs) zero l = (x, refl)
  there_is (x ∷ xs) (suc n) l = there_is xs n (omega (arith, l))

-- ---- what passes a test
module _ {X : Type 0} (p : X → Bool) where
  -- where an element that passes stands, what passes before it is what passes of those before it
  abbrev Stands : List X → ℕ → X → List X → Type 0
  Stands xs k x passed = (n : ℕ) × (slice_get xs n ≡ Some x) × (p x ≡ true) × (take k passed ≡ filter p (take n xs))

  pub passed_at : (xs : List X) (k : ℕ) (x : X) → slice_get (filter p xs) k ≡ Some x → Stands xs k x (filter p xs)
  passed_at [] k x e = absurd (cc)
  passed_at (y ∷ xs) k x e = by_test (p y) refl k e (λ k e. passed_at xs k x e)
    where
      by_test : (b : Bool) → p y ≡ b → (k : ℕ) → slice_get (cond b (y ∷ filter p xs) (filter p xs)) k ≡ Some x → ((k : ℕ) → slice_get (filter p xs) k ≡ Some x → Stands xs k x (filter p xs)) → Stands (y ∷ xs) k x (cond b (y ∷ filter p xs) (filter p xs))
      by_test true t zero e again = (0, e, ap p (sym (same y x e)) ∙ t, refl)
      by_test true t (suc k) e again = passing (again k e)
        where
          passing : Stands xs k x (filter p xs) → Stands (y ∷ xs) (suc k) x (y ∷ filter p xs)
          passing (n, s, q, f) = (suc n, s, q, ap (λ (l : List X). y ∷ l) f ∙ sym (ap (λ (b : Bool). cond b (y ∷ filter p (take n xs)) (filter p (take n xs))) t))
      by_test false t k e again = failing (again k e)
        where
          failing : Stands xs k x (filter p xs) → Stands (y ∷ xs) k x (filter p xs)
          failing (n, s, q, f) = (suc n, s, q, f ∙ sym (ap (λ (b : Bool). cond b (y ∷ filter p (take n xs)) (filter p (take n xs))) t))

  -- what passes of the first n stands first among all that passes
  pub first_passed : (xs : List X) (n : ℕ) → take (count_by p (take n xs)) (filter p xs) ≡ filter p (take n xs)
  first_passed xs n =
      ap (λ (k : ℕ). take k (filter p xs)) (sym (length-filter p (take n xs)))
      ∙ (ap (λ (l : List X). take (length (filter p (take n xs))) (filter p l)) (sym (take-append-drop n xs))
      ∙ (ap (take (length (filter p (take n xs)))) (filter-append p (take n xs) (drop n xs)) ∙ take-append_seam (filter p (take n xs)) (filter p (drop n xs))))

  none_pass : (q : X → Bool) (xs : List X) → ((k : ℕ) (x : X) → slice_get xs k ≡ Some x → q x ≡ false) → filter q (filter p xs) ≡ []
  none_pass q [] off = refl
  none_pass q (y ∷ xs) off = by_test (p y) (none_pass q xs (λ k x e. off (suc k) x e))
    where
      by_test : (b : Bool) → filter q (filter p xs) ≡ [] → filter q (cond b (y ∷ filter p xs) (filter p xs)) ≡ []
      by_test true e = ap (λ (b : Bool). cond b (y ∷ filter q (filter p xs)) (filter q (filter p xs))) (off 0 y refl) ∙ e
      by_test false e = e

  -- another test that just the first n pass
  pub passed_below : (q : X → Bool) (xs : List X) (n : ℕ) → ((k : ℕ) (x : X) → slice_get xs k ≡ Some x → k < n → q x ≡ true) → ((k : ℕ) (x : X) → slice_get xs k ≡ Some x → n ≤ k → q x ≡ false) → filter q (filter p xs) ≡ filter p (take n xs)
  passed_below q [] zero on off = refl
  passed_below q [] (suc n) on off = refl
  passed_below q (y ∷ xs) zero on off = none_pass q (y ∷ xs) (λ k x e. off k x e (omega arith))
  passed_below q (y ∷ xs) (suc n) on off = by_test (p y) (passed_below q xs n (λ k x e l. on (suc k) x e (omega (arith, l))) (λ k x e l. off (suc k) x e (omega (arith, l))))
    where
      by_test : (b : Bool) → filter q (filter p xs) ≡ filter p (take n xs) → filter q (cond b (y ∷ filter p xs) (filter p xs)) ≡ cond b (y ∷ filter p (take n xs)) (filter p (take n xs))
      by_test true e = ap (λ (b : Bool). cond b (y ∷ filter q (filter p xs)) (filter q (filter p xs))) (on 0 y refl (omega arith)) ∙ ap (λ (l : List X). y ∷ l) e
      by_test false e = e

  -- what holds of all that pass
  pub of_passed : (Q : X → Type 0) (xs : List X) (n : ℕ) (x : X) → All Q (filter p xs) → slice_get xs n ≡ Some x → p x ≡ true → Q x
  of_passed Q [] n x h e t = absurd (cc)
  of_passed Q (y ∷ xs) zero x h e t =
      let i = same y x e in
      let pass : p y ≡ true = ap p i ∙ t in
      subst Q i (subst (λ (b : Bool). All Q (cond b (y ∷ filter p xs) (filter p xs))) pass h 0 y (omega arith))
  of_passed Q (y ∷ xs) (suc n) x h e t = by_test (p y) h (λ g. of_passed Q xs n x g e t)
    where
      by_test : (b : Bool) → All Q (cond b (y ∷ filter p xs) (filter p xs)) → (All Q (filter p xs) → Q x) → Q x
      by_test true h again = again (All-tail Q y (filter p xs) h)
      by_test false h again = again h

-- ---- the entries of a journal as lines
pub entry_at : (journal : List Entry) (n : ℕ) (line : law.Entry Shown) → slice_get (lines_of journal) n ≡ Some line → (x : Entry) × (slice_get journal n ≡ Some x) × (line_of x ≡ line)
entry_at [] n line e = absurd (cc)
entry_at (x ∷ journal) zero line e = (x, refl, same (line_of x) line e)
entry_at (x ∷ journal) (suc n) line e = entry_at journal n line e
