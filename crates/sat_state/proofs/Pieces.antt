-- Lists: a default at the end, fronts, and how often a number stands in them.
use Rattle.std.proofs.Common.{◌≡◌, ◌≢◌, ◌⊎◌, inl, inr, ℕ, ◌+◌, ◌<◌, ◌≤◌, true, false, List, [], ◌∷◌, ◌++◌, length, get_or, take, drop, Contains, refl, sym, ap, ◌∙◌, subst, arith}
use Rattle.std.specs.Prelude.{All, AllPairs, nat_eq}
use Rattle.std.proofs.lemmas.Bool.{cases_eq, cases_order, eq-eqb, ne_eqb}
use Rattle.std.proofs.lemmas.List.{get_or_append_left, get_or_push, get_or_past, length_push, length-append, take-append-drop, take_more}
use Rattle.log_law.proofs.Lists.{contains_here, contains_later, contains_cases, contains_none}
use Rattle.sat_state.specs.Tables.{times}

-- a list that has the default everywhere, with one more
pub default_push : {A : Type 0} (xs : List A) (d : A) → ((k : ℕ) → get_or xs k d ≡ d) → (k : ℕ) → get_or (xs ++ d ∷ []) k d ≡ d
default_push xs d f k = by_place (cases_order k (length xs))
  where
    by_place : (k ≡ length xs) ⊎ ((k < length xs) ⊎ (length xs < k)) → get_or (xs ++ d ∷ []) k d ≡ d
    by_place (inl e) = get_or_push xs d d k (sym e)
    by_place (inr (inl l)) = get_or_append_left xs (d ∷ []) d k l ∙ f k
    by_place (inr (inr l)) = get_or_past (xs ++ d ∷ []) k d (omega (arith, length_push xs d))

pub all_front : {A : Type 0} (P : A → Type 0) (xs ys : List A) → All P (xs ++ ys) → All P xs
all_front P xs ys h k d l = subst P (get_or_append_left xs ys d k l) (h k d (omega (arith, length-append xs ys)))

pub pairs_front : {A : Type 0} (R : A → A → Type 0) (xs ys : List A) → AllPairs R (xs ++ ys) → AllPairs R xs
pairs_front R xs ys h i j d b l =
    subst (λ z. R z (get_or xs j d)) (get_or_append_left xs ys d i (omega arith))
    (subst (R (get_or (xs ++ ys) i d)) (get_or_append_left xs ys d j l) (h i j d b (omega (arith, length-append xs ys))))

-- ---- how often a number stands in a list
pub times_here : (n m : ℕ) (ms : List ℕ) → m ≡ n → times n (m ∷ ms) ≡ times n ms + 1
times_here n m ms e = let t : nat_eq m n ≡ true = eq-eqb m n e in rw t refl

pub times_later : (n m : ℕ) (ms : List ℕ) → m ≢ n → times n (m ∷ ms) ≡ times n ms
times_later n m ms e = let t : nat_eq m n ≡ false = ne_eqb m n e in rw t refl

pub times_append : (n : ℕ) (xs ys : List ℕ) → times n (xs ++ ys) ≡ times n xs + times n ys
times_append n [] ys = omega arith
times_append n (x ∷ xs) ys = by_number (cases_eq x n) (times_append n xs ys)
  where
    by_number : (x ≡ n) ⊎ (x ≢ n) → times n (xs ++ ys) ≡ times n xs + times n ys → times n (x ∷ (xs ++ ys)) ≡ times n (x ∷ xs) + times n ys
    by_number (inl e) again = let a = times_here n x (xs ++ ys) e in let b = times_here n x xs e in omega arith
    by_number (inr e) again = let a = times_later n x (xs ++ ys) e in let b = times_later n x xs e in omega arith

pub times_more : (n : ℕ) (xs : List ℕ) (k : ℕ) → k < length xs → times n (take (k + 1) xs) ≡ times n (take k xs) + times n (get_or xs k 0 ∷ [])
times_more n xs k l = ap (times n) (take_more xs k 0 l) ∙ times_append n (take k xs) (get_or xs k 0 ∷ [])

pub times_take : (n k : ℕ) (xs : List ℕ) → times n (take k xs) ≤ times n xs
times_take n k xs = let e : times n xs ≡ times n (take k xs) + times n (drop k xs) = ap (times n) (sym (take-append-drop k xs)) ∙ times_append n (take k xs) (drop k xs) in omega arith

pub member_times : (n : ℕ) (xs : List ℕ) → Contains xs n → 0 < times n xs
member_times n [] h = absurd (contains_none n h)
member_times n (x ∷ xs) h = by_cases (cases_eq x n) (contains_cases n x xs h) (member_times n xs)
  where
    by_cases : (x ≡ n) ⊎ (x ≢ n) → (x ≡ n) ⊎ Contains xs n → (Contains xs n → 0 < times n xs) → 0 < times n (x ∷ xs)
    by_cases (inl e) c again = let a = times_here n x xs e in omega arith
    by_cases (inr e) (inl i) again = absurd (e i)
    by_cases (inr e) (inr c) again = let a = times_later n x xs e in let b = again c in omega arith

pub times_member : (n : ℕ) (xs : List ℕ) → 0 < times n xs → Contains xs n
times_member n [] h = absurd (omega arith)
times_member n (x ∷ xs) h = by_number (cases_eq x n) (times_member n xs)
  where
    by_number : (x ≡ n) ⊎ (x ≢ n) → (0 < times n xs → Contains xs n) → Contains (x ∷ xs) n
    by_number (inl e) again = contains_here n x xs e
    by_number (inr e) again = let a = times_later n x xs e in contains_later n x xs (again (omega arith))
