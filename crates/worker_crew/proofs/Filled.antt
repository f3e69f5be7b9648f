-- Outcomes at the places of their turns.
use Rattle.std.proofs.Common.{◌≡◌, ◌≢◌, ◌∙◌, ◌⊎◌, inl, inr, ℕ, zero, suc, ◌+◌, ◌<◌, ◌≤◌, cond, ◌==◌, Some, List, [], ◌∷◌, length, get_or, set, All, refl, sym, ap, subst, arith, length-set}
use Rattle.std.proofs.Math.ListN.{replicate}
use Rattle.std.specs.Prelude.{slice_get, sum_by}
use Rattle.std.proofs.lemmas.Bool.{cases_lt}
use Rattle.std.proofs.lemmas.Bool.Decides.{nat_tests}
use Rattle.std.proofs.lemmas.List.Elements.{All-head, All-tail}
use Rattle.std.proofs.lemmas.List.Sums.{sum_by-cons, sum_by-set}
use Rattle.std.proofs.lemmas.Option.{get_or_from_slice_get}
use Rattle.claims.specs.Draws.{times}
use Rattle.worker_pool.specs.declared.outcome.Outcome.{Outcome}
use Rattle.worker_pool.specs.declared.outcome.Outcome.TheVariants.{NoMemory}
use Rattle.worker_crew.specs.declared.taken.Taken.{Taken}
use Rattle.worker_crew.specs.Workers.{turns_in, filled}

-- ---- lists
module _ {X : Type 0} where
  -- an item is the one that was put there, or stood there before
  set_cases : (xs : List X) (i : ℕ) (y : X) (u : ℕ) (x : X) → slice_get (set xs i y) u ≡ Some x → ((i ≡ u) × (y ≡ x)) ⊎ (slice_get xs u ≡ Some x)
  set_cases [] i y u x e = inr e
  set_cases (z ∷ xs) zero y zero x e = inl (refl, cc)
  set_cases (z ∷ xs) zero y (suc u) x e = inr e
  set_cases (z ∷ xs) (suc i) y zero x e = inr e
  set_cases (z ∷ xs) (suc i) y (suc u) x e = lifted (set_cases xs i y u x e)
    where
      lifted : ((i ≡ u) × (y ≡ x)) ⊎ (slice_get xs u ≡ Some x) → ((suc i ≡ suc u) × (y ≡ x)) ⊎ (slice_get xs u ≡ Some x)
      lifted (inl (a, b)) = inl (ap suc a, b)
      lifted (inr h) = inr h

  set_other : (xs : List X) (i : ℕ) (y : X) (u : ℕ) → i ≢ u → slice_get (set xs i y) u ≡ slice_get xs u
  set_other [] i y u n = refl
  set_other (z ∷ xs) zero y zero n = absurd (n refl)
  set_other (z ∷ xs) zero y (suc u) n = refl
  set_other (z ∷ xs) (suc i) y zero n = refl
  set_other (z ∷ xs) (suc i) y (suc u) n = set_other xs i y u (λ e. n (ap suc e))

  pub replicate_at : (n : ℕ) (y : X) (u : ℕ) → u < n → slice_get (replicate n y) u ≡ Some y
  replicate_at zero y u l = absurd (omega (arith, l))
  replicate_at (suc n) y zero l = refl
  replicate_at (suc n) y (suc u) l = replicate_at n y u (omega (arith, l))

  pub replicate_is : (n : ℕ) (y : X) (u : ℕ) (x : X) → slice_get (replicate n y) u ≡ Some x → y ≡ x
  replicate_is zero y u x e = absurd (cc)
  replicate_is (suc n) y zero x e = cc
  replicate_is (suc n) y (suc u) x e = replicate_is n y u x e

  pub sum_replicate : (f : X → ℕ) (n : ℕ) (y : X) → f y ≡ 0 → sum_by f (replicate n y) ≡ 0
  sum_replicate f zero y e = refl
  sum_replicate f (suc n) y e = let r = sum_replicate f n y e in omega (arith, r, e, sum_by-cons f y (replicate n y))

-- ---- what holds of each outcome at its place
module _ (P : ℕ → Outcome → Type 0) where
  abbrev pub AllPlaced : List Outcome → Type 0
  AllPlaced outcomes = (u : ℕ) (outcome : Outcome) → slice_get outcomes u ≡ Some outcome → P u outcome

  pub filled_all : (outcomes : List Outcome) (taken : List Taken) → AllPlaced outcomes → All (λ (t : Taken). P t.turn t.outcome) taken → AllPlaced (filled outcomes taken)
  filled_all outcomes [] old new = old
  filled_all outcomes (t ∷ taken) old new = filled_all (set outcomes t.turn t.outcome) taken (λ u outcome e. by_place u outcome (set_cases outcomes t.turn t.outcome u outcome e)) (All-tail (λ (t : Taken). P t.turn t.outcome) t taken new)
    where
      by_place : (u : ℕ) (outcome : Outcome) → ((t.turn ≡ u) × (t.outcome ≡ outcome)) ⊎ (slice_get outcomes u ≡ Some outcome) → P u outcome
      by_place u outcome (inl (a, b)) = subst (λ (o : Outcome). P u o) b (subst (λ (v : ℕ). P v t.outcome) a (All-head (λ (t : Taken). P t.turn t.outcome) t taken new))
      by_place u outcome (inr h) = old u outcome h

pub length-filled : (outcomes : List Outcome) (taken : List Taken) → length (filled outcomes taken) ≡ length outcomes
length-filled outcomes [] = refl
length-filled outcomes (t ∷ taken) = length-filled (set outcomes t.turn t.outcome) taken ∙ length-set outcomes t.turn t.outcome

-- ---- what the outcomes count, where no turn was taken twice
same_once : (x : ℕ) → ◌≡◌ {A = ℕ} (cond (x == x) 1 0) 1
same_once x = grind (arith, nat_tests)

-- a turn that was taken is one
no_other : (n x y : ℕ) → y < n → n ≤ x → ◌≡◌ {A = ℕ} (cond (y == x) 1 0) 0
no_other n x y l m = grind (arith, nat_tests)

none_past : (n : ℕ) (taken : List Taken) → All (λ (t : Taken). t.turn < n) taken → (x : ℕ) → n ≤ x → times x (turns_in taken) ≡ 0
none_past n [] inside x l = refl
none_past n (t ∷ taken) inside x l =
    let r = none_past n taken (All-tail (λ (t : Taken). t.turn < n) t taken inside) x l in
    let z = no_other n x t.turn (All-head (λ (t : Taken). t.turn < n) t taken inside) l in
    omega (arith, r, z, sum_by-cons (λ y. cond (y == x) 1 0) t.turn (turns_in taken))

pub times_within : (n : ℕ) (taken : List Taken) → All (λ (t : Taken). t.turn < n) taken → (x : ℕ) → 1 ≤ times x (turns_in taken) → x < n
times_within n taken inside x some = by_place (cases_lt x n)
  where
    by_place : (x < n) ⊎ (n ≤ x) → x < n
    by_place (inl l) = l
    by_place (inr l) = absurd (let z = none_past n taken inside x l in omega (arith, z, some))

module _ (f : Outcome → ℕ) (none : f NoMemory ≡ 0) where
  abbrev Untaken : List Outcome → List Taken → Type 0
  Untaken outcomes taken = (x : ℕ) → 1 ≤ times x (turns_in taken) → slice_get outcomes x ≡ Some NoMemory

  pub sum_filled : (outcomes : List Outcome) (taken : List Taken) → All (λ (t : Taken). t.turn < length outcomes) taken → ((x : ℕ) → times x (turns_in taken) ≤ 1) → Untaken outcomes taken
      → sum_by f (filled outcomes taken) ≡ sum_by f outcomes + sum_by (λ (t : Taken). f t.outcome) taken
  sum_filled outcomes [] inside once untaken = let z : sum_by (λ (t : Taken). f t.outcome) [] ≡ 0 = refl in omega (arith, z)
  sum_filled outcomes (t ∷ taken) inside once untaken =
      let r = sum_filled (set outcomes t.turn t.outcome) taken inside_rest once_rest untaken_rest in
      let s = sum_by-set f outcomes t.turn t.outcome NoMemory (All-head (λ (t : Taken). t.turn < length outcomes) t taken inside) in
      let z : f (get_or outcomes t.turn NoMemory) ≡ 0 = ap f (get_or_from_slice_get outcomes t.turn NoMemory NoMemory here) ∙ none in
      omega (arith, r, s, z, sum_by-cons (λ (t : Taken). f t.outcome) t taken)
    where
      counted : (x : ℕ) → times x (turns_in (t ∷ taken)) ≡ cond (t.turn == x) 1 0 + times x (turns_in taken)
      counted x = sum_by-cons (λ y. cond (y == x) 1 0) t.turn (turns_in taken)

      here : slice_get outcomes t.turn ≡ Some NoMemory
      here = untaken t.turn (let c = counted t.turn in let s = same_once t.turn in omega (arith, c, s))

      inside_rest : All (λ (s : Taken). s.turn < length (set outcomes t.turn t.outcome)) taken
      inside_rest = subst (λ (n : ℕ). All (λ (s : Taken). s.turn < n) taken) (sym (length-set outcomes t.turn t.outcome)) (All-tail (λ (s : Taken). s.turn < length outcomes) t taken inside)

      once_rest : (x : ℕ) → times x (turns_in taken) ≤ 1
      once_rest x = let c = counted x in let o = once x in omega (arith, c, o)

      other : (x : ℕ) → 1 ≤ times x (turns_in taken) → t.turn ≢ x
      other x l e =
          let c = counted x in let o = once x in let s = same_once x in
          let i : ◌≡◌ {A = ℕ} (cond (t.turn == x) 1 0) (cond (x == x) 1 0) = ap (λ (y : ℕ). cond (y == x) 1 0) e in
          omega (arith, l, c, o, s, i)

      untaken_rest : Untaken (set outcomes t.turn t.outcome) taken
      untaken_rest x l = set_other outcomes t.turn t.outcome x (other x l) ∙ untaken x (let c = counted x in omega (arith, c, l))
