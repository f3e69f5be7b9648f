-- Chains of places by bucket: what a place more or less makes of them, and where walks along them stand.
use Rattle.std.proofs.Common.{◌≡◌, ◌≢◌, ◌∙◌, ℕ, zero, suc, ◌<◌, ◌≤◌, Bool, true, false, cond, ◌==◌, Option, None, Some, List, [], ◌∷◌, ◌++◌, length, get_or, take, set, length-append, length-take, get_or-set_same, get_or-set_other, get_or-take, take_all, take-take, refl, sym, ap, ap₂, subst, arith, eq-eqb, eqb-true}
use Rattle.std.proofs.Math.ListN.{get_or-append}
use Rattle.std.proofs.Math.Seq.{get_or-append_seam, take-append_seam}
use Rattle.std.proofs.lemmas.List.{take-append-le}
use native.Mathlib.Decide.{dec_lt, ℕ_discrete}
use Rattle.side_table.specs.Chains.{Key, last_where, is_in, AreChained, IsNext, IsSought, before_next}

abbrev step : Option ℕ → Bool → Option ℕ
step place test = elim place [ Some i ↦ Some (suc i) | None ↦ cond test (Some 0) None ]

step_some : (place : Option ℕ) (test : Bool) (i : ℕ) → step place test ≡ Some (suc i) → place ≡ Some i
step_some (Some k) test i e = cc
step_some None true i e = absurd (cc)
step_some None false i e = absurd (cc)

step_zero : (place : Option ℕ) (test : Bool) → step place test ≡ Some 0 → (place ≡ None) × (test ≡ true)
step_zero (Some k) test e = absurd (cc)
step_zero None true e = (refl, refl)
step_zero None false e = absurd (cc)

step_none : (place : Option ℕ) (test : Bool) → step place test ≡ None → (place ≡ None) × (test ≡ false)
step_none (Some k) test e = absurd (cc)
step_none None true e = absurd (cc)
step_none None false e = (refl, refl)

pub is_none : (o : Option ℕ) → ((place : ℕ) → o ≡ Some place → ⊥) → o ≡ None
is_none None h = refl
is_none (Some place) h = absurd (h place refl)

-- ---- the last that passes a test
module _ (test : Key → Bool) where
  pub where_within : (xs : List Key) (i : ℕ) → last_where test xs ≡ Some i → i < length xs
  where_within [] i e = absurd (cc)
  where_within (x ∷ xs) zero e = omega arith
  where_within (x ∷ xs) (suc i) e = let l = where_within xs i (step_some _ _ i e) in omega arith

  pub where_passes : (xs : List Key) (i : ℕ) (d : Key) → last_where test xs ≡ Some i → test (get_or xs i d) ≡ true
  where_passes [] i d e = absurd (cc)
  where_passes (x ∷ xs) zero d e = (step_zero _ _ e).1
  where_passes (x ∷ xs) (suc i) d e = where_passes xs i d (step_some _ _ i e)

  pub where_append : (xs : List Key) (x : Key) → last_where test (xs ++ x ∷ []) ≡ cond (test x) (Some (length xs)) (last_where test xs)
  where_append [] x = refl
  where_append (y ∷ xs) x = ap (λ o. step o (test y)) (where_append xs x) ∙ pass (test x) (test y) (length xs) (last_where test xs)
    where
      pass : (a b : Bool) (n : ℕ) (o : Option ℕ) → step (cond a (Some n) o) b ≡ cond a (Some (suc n)) (step o b)
      pass true b n o = refl
      pass false b n o = refl

  pub none_at : (xs : List Key) (i : ℕ) → last_where test xs ≡ None → i < length xs → test (get_or xs i None) ≡ true → ⊥
  none_at [] i e m h = absurd (omega arith)
  none_at (x ∷ xs) zero e m h = let s = (step_none _ _ e).1 in absurd (cc)
  none_at (x ∷ xs) (suc i) e m h = none_at xs i (step_none _ _ e).0 (omega arith) h

  -- none of those after the last passes
  pub none_after : (xs : List Key) (p i : ℕ) → last_where test xs ≡ Some p → p < i → i < length xs → test (get_or xs i None) ≡ true → ⊥
  none_after [] p i e l m h = absurd (omega arith)
  none_after (x ∷ xs) p zero e l m h = absurd (omega arith)
  none_after (x ∷ xs) zero (suc i) e l m h = none_at xs i (step_zero _ _ e).0 (omega arith) h
  none_after (x ∷ xs) (suc p) (suc i) e l m h = none_after xs p i (step_some _ _ p e) (omega arith) (omega arith) h

  -- where none after p passes, one that does isn't after p
  abbrev pub IsLow : List Key → ℕ → Type 0
  IsLow xs p = (i : ℕ) → last_where test xs ≡ Some i → i ≤ p

  pub low_all : (xs : List Key) (p i : ℕ) → IsLow xs p → p < i → i < length xs → test (get_or xs i None) ≡ true → ⊥
  low_all xs p i low l m h = by_last (last_where test xs) refl
    where
      by_last : (o : Option ℕ) → last_where test xs ≡ o → ⊥
      by_last None e = none_at xs i e m h
      by_last (Some q) e = let k = low q e in none_after xs q i e (omega arith) m h

  -- where one passes, the last that does isn't before it
  pub some_from : (xs : List Key) (j : ℕ) → j < length xs → test (get_or xs j None) ≡ true → (q : ℕ) × (last_where test xs ≡ Some q) × (j ≤ q)
  some_from xs j l h = by_last (last_where test xs) refl
    where
      by_order : (q : ℕ) → last_where test xs ≡ Some q → Dec (q < j) → j ≤ q
      by_order q e (yes m) = absurd (none_after xs q j e m l h)
      by_order q e (no m) = omega arith

      by_last : (o : Option ℕ) → last_where test xs ≡ o → (q : ℕ) × (last_where test xs ≡ Some q) × (j ≤ q)
      by_last None e = absurd (none_at xs j e l h)
      by_last (Some q) e = (q, e, by_order q e (dec_lt q j))

  -- ---- another key at a place
  pub keeps_other : (xs : List Key) (p : ℕ) (x : Key) → test x ≡ false → test (get_or xs p None) ≡ false → last_where test (set xs p x) ≡ last_where test xs
  keeps_other [] p x h g = refl
  keeps_other (y ∷ xs) zero x h g = ap (step (last_where test xs)) (h ∙ sym g)
  keeps_other (y ∷ xs) (suc p) x h g = ap (λ o. step o (test y)) (keeps_other xs p x h g)

  pub above : (xs : List Key) (p q : ℕ) (x : Key) → last_where test xs ≡ Some q → p < q → last_where test (set xs p x) ≡ Some q
  above [] p q x e l = absurd (cc)
  above (y ∷ xs) zero zero x e l = absurd (omega arith)
  above (y ∷ xs) zero (suc q) x e l = ap (λ o. step o (test x)) (step_some _ _ q e)
  above (y ∷ xs) (suc p) zero x e l = absurd (omega arith)
  above (y ∷ xs) (suc p) (suc q) x e l = ap (λ o. step o (test y)) (above xs p q x (step_some _ _ q e) (omega arith))

  low_head : (y : Key) (xs : List Key) → IsLow (y ∷ xs) 0 → last_where test xs ≡ None
  low_head y xs low = is_none (last_where test xs) (λ i e. let l = low (suc i) (ap (λ o. step o (test y)) e) in omega arith)

  low_tail : (y : Key) (xs : List Key) (p : ℕ) → IsLow (y ∷ xs) (suc p) → IsLow xs p
  low_tail y xs p low i e = let l = low (suc i) (ap (λ o. step o (test y)) e) in omega arith

  pub at_last : (xs : List Key) (p : ℕ) (x : Key) → p < length xs → IsLow xs p → test x ≡ true → last_where test (set xs p x) ≡ Some p
  at_last [] p x l low t = absurd (omega arith)
  at_last (y ∷ xs) zero x l low t = ap₂ step (low_head y xs low) t
  at_last (y ∷ xs) (suc p) x l low t = ap (λ o. step o (test y)) (at_last xs p x (omega arith) (low_tail y xs p low) t)

  pub removed : (xs : List Key) (p : ℕ) (x : Key) → IsLow xs p → test x ≡ false → last_where test (set xs p x) ≡ last_where test (take p xs)
  removed [] zero x low t = refl
  removed [] (suc p) x low t = refl
  removed (y ∷ xs) zero x low t = ap₂ step (low_head y xs low) t
  removed (y ∷ xs) (suc p) x low t = ap (λ o. step o (test y)) (removed xs p x (low_tail y xs p low) t)

  pub cut_off : (xs : List Key) (p : ℕ) → IsLow xs p → test None ≡ false → test (get_or xs p None) ≡ false → last_where test xs ≡ last_where test (take p xs)
  cut_off xs p low n h = sym (keeps_other xs p None n h) ∙ removed xs p None low n

  pub take_false : (xs : List Key) (i p : ℕ) → test None ≡ false → test (get_or xs p None) ≡ false → test (get_or (take i xs) p None) ≡ false
  take_false [] zero p n h = n
  take_false [] (suc i) p n h = n
  take_false (y ∷ xs) zero p n h = n
  take_false (y ∷ xs) (suc i) zero n h = h
  take_false (y ∷ xs) (suc i) (suc p) n h = take_false xs i p n h

take_set : (xs : List Key) (i p : ℕ) (x : Key) → take i (set xs p x) ≡ set (take i xs) p x
take_set [] zero p x = refl
take_set [] (suc i) p x = refl
take_set (y ∷ xs) zero zero x = refl
take_set (y ∷ xs) zero (suc p) x = refl
take_set (y ∷ xs) (suc i) zero x = refl
take_set (y ∷ xs) (suc i) (suc p) x = ap (λ ys. y ∷ ys) (take_set xs i p x)

set_beyond : (xs : List Key) (p : ℕ) (x : Key) → length xs ≤ p → set xs p x ≡ xs
set_beyond [] p x l = refl
set_beyond (y ∷ xs) zero x l = absurd (omega arith)
set_beyond (y ∷ xs) (suc p) x l = ap (λ ys. y ∷ ys) (set_beyond xs p x (omega arith))

pub length_set : (xs : List (Option ℕ)) (i : ℕ) (x : Option ℕ) → length (set xs i x) ≡ length xs
length_set [] i x = refl
length_set (y ∷ xs) zero x = refl
length_set (y ∷ xs) (suc i) x = ap suc (length_set xs i x)

eq_false : (a b : ℕ) → (a ≢ b) → (a == b) ≡ false
eq_false a b n = by_test (a == b) refl
  where
    by_test : (u : Bool) → (a == b) ≡ u → (a == b) ≡ false
    by_test true h = absurd (n (eqb-true a b h))
    by_test false h = h

pub in_own : (b : ℕ) → is_in b (Some b) ≡ true
in_own b = eq-eqb b b refl

pub in_other : (k b : ℕ) → (k ≢ b) → is_in k (Some b) ≡ false
in_other k b n = eq_false b k (λ e. n (sym e))

-- ---- a place more at the end
pub none_chained : (heads : List (Option ℕ)) → ((b : ℕ) → get_or heads b None ≡ None) → AreChained heads [] []
none_chained heads h = record { last = λ b m. h b; long = refl; earlier = λ i b m t. absurd (omega arith) }

pub none_more : (heads : List (Option ℕ)) → ((b : ℕ) → get_or heads b None ≡ None) → (b : ℕ) → get_or (heads ++ None ∷ []) b None ≡ None
none_more [] h zero = refl
none_more [] h (suc b) = refl
none_more (x ∷ heads) h zero = h 0
none_more (x ∷ heads) h (suc b) = none_more heads (λ k. h (suc k)) b

pub linked : (heads before : List (Option ℕ)) (keys : List Key) (b : ℕ) → AreChained heads before keys → b < length heads
    → AreChained (set heads b (Some (length keys))) (before ++ get_or heads b None ∷ []) (keys ++ Some b ∷ [])
linked heads before keys b C l = record { last = λ k m. last k (let e = length_set heads b (Some (length keys)) in omega arith) (ℕ_discrete k b); long = long; earlier = λ i k m t. earlier i k m t (dec_lt i (length keys)) }
  where
    last : (k : ℕ) → k < length heads → Dec (k ≡ b) → get_or (set heads b (Some (length keys))) k None ≡ last_where (is_in k) (keys ++ Some b ∷ [])
    last k m (yes e) =
        let t : is_in k (Some b) ≡ true = eq-eqb b k (sym e) in
        ap (λ j. get_or (set heads b (Some (length keys))) j None) e ∙ get_or-set_same heads b (Some (length keys)) None l
        ∙ sym (where_append (is_in k) keys (Some b) ∙ ap (λ u. cond u (Some (length keys)) (last_where (is_in k) keys)) t)
    last k m (no n) =
        get_or-set_other heads b k (Some (length keys)) None n ∙ C.last k m
        ∙ sym (where_append (is_in k) keys (Some b) ∙ ap (λ u. cond u (Some (length keys)) (last_where (is_in k) keys)) (in_other k b n))

    long : length (before ++ get_or heads b None ∷ []) ≡ length (keys ++ Some b ∷ [])
    long = let e = length-append before (get_or heads b None ∷ []) in let f = length-append keys (Some b ∷ []) in let g = C.long in omega arith

    earlier : (i k : ℕ) → i < length (keys ++ Some b ∷ []) → is_in k (get_or (keys ++ Some b ∷ []) i None) ≡ true → Dec (i < length keys)
        → get_or (before ++ get_or heads b None ∷ []) i None ≡ last_where (is_in k) (take i (keys ++ Some b ∷ []))
    earlier i k m t (yes u) =
        let g = C.long in
        get_or-append before (get_or heads b None ∷ []) None i (omega arith)
        ∙ C.earlier i k u (ap (is_in k) (sym (get_or-append keys (Some b ∷ []) None i u)) ∙ t)
        ∙ ap (last_where (is_in k)) (sym (take-append-le i keys (Some b ∷ []) (omega arith)))
    earlier i k m t (no n) =
        let g = C.long in
        let f = length-append keys (Some b ∷ []) in
        let e : i ≡ length before = omega arith in
        let e2 : i ≡ length keys = omega arith in
        let own : is_in k (Some b) ≡ true = ap (is_in k) (sym (ap (λ j. get_or (keys ++ Some b ∷ []) j None) e2 ∙ get_or-append_seam keys (Some b) [] None)) ∙ t in
        let same : b ≡ k = eqb-true _ _ own in
        ap (λ j. get_or (before ++ get_or heads b None ∷ []) j None) e ∙ get_or-append_seam before (get_or heads b None) [] None ∙ C.last b l ∙ ap (λ j. last_where (is_in j) keys) same
        ∙ ap (last_where (is_in k)) (sym (ap (λ j. take j (keys ++ Some b ∷ [])) e2 ∙ take-append_seam keys (Some b ∷ [])))

-- ---- another key at one place: what follows it in its bucket is then before v
module _ (heads before after : List (Option ℕ)) (keys : List Key) (C : AreChained heads before keys) (place b : ℕ) (x : Key) (v : Option ℕ) (l : place < length keys) (hb : b < length heads) (other : (k : ℕ) → (k ≢ b) → (is_in k x ≡ false) × (is_in k (get_or keys place None) ≡ false)) (follow : (n : ℕ) → place < n → n ≤ length keys → IsLow (is_in b) (take n keys) place → last_where (is_in b) (set (take n keys) place x) ≡ v) (kept : (i : ℕ) → (i ≢ place) → get_or after i None ≡ get_or before i None) (own : is_in b x ≡ true → get_or after place None ≡ last_where (is_in b) (take place keys)) (long : length after ≡ length before) where
  abbrev new : List Key
  new = set keys place x

  all_of : take (length keys) keys ≡ keys
  all_of = take_all (length keys) keys (omega arith)

  short : (i : ℕ) → length (take i keys) ≤ i
  short i = let e = length-take i keys in omega arith

  same_other : (k : ℕ) → (k ≢ b) → last_where (is_in k) keys ≡ last_where (is_in k) new
  same_other k n = sym (keeps_other (is_in k) keys place x (other k n).0 (other k n).1)

  front_other : (i k : ℕ) → (k ≢ b) → last_where (is_in k) (take i keys) ≡ last_where (is_in k) (take i new)
  front_other i k n =
      sym (ap (last_where (is_in k)) (take_set keys i place x) ∙ keeps_other (is_in k) (take i keys) place x (other k n).0 (take_false (is_in k) keys i place refl (other k n).1))

  front_before : (i k : ℕ) → i ≤ place → last_where (is_in k) (take i keys) ≡ last_where (is_in k) (take i new)
  front_before i k m = let s = short i in sym (ap (last_where (is_in k)) (take_set keys i place x ∙ set_beyond (take i keys) place x (omega arith)))

  is_own : (k : ℕ) → is_in k x ≡ true → k ≡ b
  is_own k t = by_test (ℕ_discrete k b)
    where
      by_test : Dec (k ≡ b) → k ≡ b
      by_test (yes e) = e
      by_test (no n) = let f = (other k n).0 in absurd (cc)

  was_there : (i k : ℕ) → (i ≢ place) → is_in k (get_or new i None) ≡ true → is_in k (get_or keys i None) ≡ true
  was_there i k n t = ap (is_in k) (sym (get_or-set_other keys place i x None n)) ∙ t

  at_place : (i k : ℕ) → i ≡ place → is_in k (get_or new i None) ≡ true → get_or after i None ≡ last_where (is_in k) (take i new)
  at_place i k e t =
      let here : is_in k x ≡ true = ap (is_in k) (sym (ap (λ j. get_or new j None) e ∙ get_or-set_same keys place x None l)) ∙ t in
      let same : k ≡ b = is_own k here in
      ap (λ j. get_or after j None) e ∙ own (subst (λ j. is_in j x ≡ true) same here) ∙ front_before place b (omega arith) ∙ ap₂ (λ i k. last_where (is_in k) (take i new)) (sym e) (sym same)

  pub rechained_last : IsNext b keys place None → AreChained (set heads b v) after new
  rechained_last N = record { last = λ k m. last k (let e = length_set heads b v in omega arith) (ℕ_discrete k b); long = long ∙ C.long ∙ sym (length_set keys place x); earlier = λ i k m t. earlier i k (let e = length_set keys place x in omega arith) t (ℕ_discrete i place) (ℕ_discrete k b) (dec_lt i place) }
    where
      low : IsLow (is_in b) keys place
      low i e = N.low i (ap (last_where (is_in b)) all_of ∙ e)

      last : (k : ℕ) → k < length heads → Dec (k ≡ b) → get_or (set heads b v) k None ≡ last_where (is_in k) new
      last k m (yes e) =
          ap (λ j. get_or (set heads b v) j None) e ∙ get_or-set_same heads b v None hb
          ∙ sym (ap (λ ys. last_where (is_in b) (set ys place x)) (sym all_of) ∙ follow (length keys) l (omega arith) N.low) ∙ ap (λ j. last_where (is_in j) new) (sym e)
      last k m (no n) = get_or-set_other heads b k v None n ∙ C.last k m ∙ same_other k n

      earlier : (i k : ℕ) → i < length keys → is_in k (get_or new i None) ≡ true → Dec (i ≡ place) → Dec (k ≡ b) → Dec (i < place) → get_or after i None ≡ last_where (is_in k) (take i new)
      earlier i k m t (yes e) _ _ = at_place i k e t
      earlier i k m t (no n) (no u) _ = kept i n ∙ C.earlier i k m (was_there i k n t) ∙ front_other i k u
      earlier i k m t (no n) (yes e) (yes f) = kept i n ∙ C.earlier i k m (was_there i k n t) ∙ front_before i k (omega arith)
      earlier i k m t (no n) (yes e) (no f) = absurd (low_all (is_in b) keys place i low (omega arith) m (subst (λ j. is_in j (get_or keys i None) ≡ true) e (was_there i k n t)))

  pub rechained_before : (next : ℕ) → IsNext b keys place (Some next) → AreChained heads (set after next v) new
  rechained_before next N = record { last = λ k m. last k m (ℕ_discrete k b); long = length_set after next v ∙ long ∙ C.long ∙ sym (length_set keys place x); earlier = λ i k m t. earlier i k (let e = length_set keys place x in omega arith) t (ℕ_discrete i next) (ℕ_discrete i place) (ℕ_discrete k b) (dec_lt i place) (dec_lt i next) }
    where
      inside : next < length keys
      inside = (N.within next refl).0

      follows : is_in b (get_or keys next None) ≡ true
      follows = (N.within next refl).1

      last : (k : ℕ) → k < length heads → Dec (k ≡ b) → get_or heads k None ≡ last_where (is_in k) new
      last k m (yes e) =
          let s = some_from (is_in b) keys next inside follows in
          let p = N.passed in
          let o = s.2 in
          C.last k m ∙ ap (λ j. last_where (is_in j) keys) e ∙ s.1 ∙ sym (above (is_in b) keys place s.0 x s.1 (omega arith)) ∙ ap (λ j. last_where (is_in j) new) (sym e)
      last k m (no n) = C.last k m ∙ same_other k n

      earlier : (i k : ℕ) → i < length keys → is_in k (get_or new i None) ≡ true → Dec (i ≡ next) → Dec (i ≡ place) → Dec (k ≡ b) → Dec (i < place) → Dec (i < next) → get_or (set after next v) i None ≡ last_where (is_in k) (take i new)
      earlier i k m t (yes e) (yes f) _ _ _ = let p = N.passed in absurd (omega arith)
      earlier i k m t (yes e) (no n) _ _ _ =
          let p = N.passed in
          let g = C.long in
          let here : is_in k (get_or keys next None) ≡ true = ap (λ j. is_in k (get_or keys j None)) (sym e) ∙ was_there i k n t in
          let same : k ≡ b = same_bucket (get_or keys next None) here follows in
          ap (λ j. get_or (set after next v) j None) e ∙ get_or-set_same after next v None (let h = inside in let o = long in omega arith)
          ∙ sym (ap (last_where (is_in b)) (take_set keys next place x) ∙ follow next p (let h = inside in omega arith) N.low) ∙ ap₂ (λ j i. last_where (is_in j) (take i new)) (sym same) (sym e)
        where
          same_bucket : (y : Key) → is_in k y ≡ true → is_in b y ≡ true → k ≡ b
          same_bucket None p q = absurd (cc)
          same_bucket (Some y) p q = sym (eqb-true _ _ p) ∙ eqb-true _ _ q
      earlier i k m t (no u) (yes e) _ _ _ = get_or-set_other after next i v None u ∙ at_place i k e t
      earlier i k m t (no u) (no n) (no w) _ _ = get_or-set_other after next i v None u ∙ kept i n ∙ C.earlier i k m (was_there i k n t) ∙ front_other i k w
      earlier i k m t (no u) (no n) (yes e) (yes f) _ = get_or-set_other after next i v None u ∙ kept i n ∙ C.earlier i k m (was_there i k n t) ∙ front_before i k (omega arith)
      earlier i k m t (no u) (no n) (yes e) (no f) (yes g) =
          let s = length-take next keys in
          absurd
          (low_all (is_in b) (take next keys) place i N.low (omega arith) (omega arith)
          (ap (is_in b) (get_or-take next keys i None g) ∙ subst (λ j. is_in j (get_or keys i None) ≡ true) e (was_there i k n t)))
      earlier i k m t (no u) (no n) (yes e) (no f) (no g) =
          let w = length-take i keys in
          let p = N.passed in
          let y : next < i = omega arith in
          let s = some_from (is_in b) (take i keys) next (omega arith) (ap (is_in b) (get_or-take i keys next None y) ∙ follows) in
          let o = s.2 in
          get_or-set_other after next i v None u ∙ kept i n ∙ C.earlier i k m (was_there i k n t) ∙ ap (λ j. last_where (is_in j) (take i keys)) e ∙ s.1
          ∙ sym (above (is_in b) (take i keys) place s.0 x s.1 (omega arith)) ∙ sym (ap (last_where (is_in b)) (take_set keys i place x)) ∙ ap (λ j. last_where (is_in j) (take i new)) (sym e)

-- ---- a place is taken out of its bucket
module _ (heads before : List (Option ℕ)) (keys : List Key) (C : AreChained heads before keys) (place b : ℕ) (l : place < length keys) (hb : b < length heads) where
  abbrev ahead : Option ℕ
  ahead = last_where (is_in b) (take place keys)

  out_follow : (n : ℕ) → place < n → n ≤ length keys → IsLow (is_in b) (take n keys) place → last_where (is_in b) (set (take n keys) place None) ≡ ahead
  out_follow n m o low = removed (is_in b) (take n keys) place None low refl ∙ ap (last_where (is_in b)) (take-take place n keys (omega arith))

  module _ (s : get_or keys place None ≡ Some b) where
    is_ahead : get_or before place None ≡ ahead
    is_ahead = C.earlier place b l (ap (is_in b) s ∙ in_own b)

    out_other : (k : ℕ) → (k ≢ b) → (is_in k None ≡ false) × (is_in k (get_or keys place None) ≡ false)
    out_other k n = (refl, ap (is_in k) s ∙ in_other k b n)

    pub unlinked_last : IsNext b keys place None → AreChained (set heads b (get_or before place None)) before (set keys place None)
    unlinked_last N = subst (λ v. AreChained (set heads b v) before (set keys place None)) (sym is_ahead) (rechained_last heads before before keys C place b None ahead l hb out_other out_follow (λ i n. refl) (λ e. absurd (cc)) refl N)

    pub unlinked_before : (next : ℕ) → IsNext b keys place (Some next) → AreChained heads (set before next (get_or before place None)) (set keys place None)
    unlinked_before next N = subst (λ v. AreChained heads (set before next v) (set keys place None)) (sym is_ahead) (rechained_before heads before before keys C place b None ahead l hb out_other out_follow (λ i n. refl) (λ e. absurd (cc)) refl next N)

  -- ---- and put into another
  module _ (s : get_or keys place None ≡ None) where
    in_follow : (n : ℕ) → place < n → n ≤ length keys → IsLow (is_in b) (take n keys) place → last_where (is_in b) (set (take n keys) place (Some b)) ≡ Some place
    in_follow n m o low = let e = length-take n keys in at_last (is_in b) (take n keys) place (Some b) (omega arith) low (in_own b)

    into_other : (k : ℕ) → (k ≢ b) → (is_in k (Some b) ≡ false) × (is_in k (get_or keys place None) ≡ false)
    into_other k n = (in_other k b n, ap (is_in k) s)

    cut_at : (n : ℕ) → place < n → IsLow (is_in b) (take n keys) place → last_where (is_in b) (take n keys) ≡ ahead
    cut_at n m low = cut_off (is_in b) (take n keys) place low refl (take_false (is_in b) keys n place refl (ap (is_in b) s)) ∙ ap (last_where (is_in b)) (take-take place n keys (omega arith))

    long_place : place < length before
    long_place = let g = C.long in omega arith

    pub linked_last : IsNext b keys place None → AreChained (set heads b (Some place)) (set before place (get_or heads b None)) (set keys place (Some b))
    linked_last N =
        rechained_last heads before (set before place (get_or heads b None)) keys C place b (Some b) (Some place) l hb into_other in_follow
        (λ i n. get_or-set_other before place i (get_or heads b None) None n)
        (λ e. get_or-set_same before place (get_or heads b None) None long_place ∙ C.last b hb ∙ ap (last_where (is_in b)) (sym (take_all (length keys) keys (omega arith))) ∙ cut_at (length keys) l N.low)
        (length_set before place (get_or heads b None)) N

    pub linked_before : (next : ℕ) → IsNext b keys place (Some next) → AreChained heads (set (set before place (get_or before next None)) next (Some place)) (set keys place (Some b))
    linked_before next N =
        rechained_before heads before (set before place (get_or before next None)) keys C place b (Some b) (Some place) l hb into_other in_follow
        (λ i n. get_or-set_other before place i (get_or before next None) None n)
        (λ e. get_or-set_same before place (get_or before next None) None long_place ∙ C.earlier next b (N.within next refl).0 (N.within next refl).1 ∙ cut_at next N.passed N.low)
        (length_set before place (get_or before next None)) next N

-- ---- a walk ends
abbrev pub depth : Option ℕ → ℕ
depth o = elim o [ Some place ↦ suc place | None ↦ 0 ]

pub walk_smaller : (heads before : List (Option ℕ)) (keys : List Key) → AreChained heads before keys → (b place : ℕ) → place < length keys → is_in b (get_or keys place None) ≡ true → (at : Option ℕ) → at ≡ Some place → depth (get_or before place None) < depth at
walk_smaller heads before keys C b place l h at e = subst (λ o. depth (get_or before place None) < depth o) (sym e) (below (get_or before place None) (C.earlier place b l h))
  where
    below : (o : Option ℕ) → o ≡ last_where (is_in b) (take place keys) → depth o < suc place
    below None h = omega arith
    below (Some k) h = let w = where_within (is_in b) (take place keys) k (sym h) in let t = length-take place keys in omega arith

-- ---- the walk to the place after one in a bucket
module _ (heads before : List (Option ℕ)) (keys : List Key) (C : AreChained heads before keys) (b place : ℕ) where
  pub sought_starts : b < length heads → place < length before → IsSought b keys place None (get_or heads b None)
  sought_starts m l = let g = C.long in record { passed = omega arith; within = λ j e. absurd (cc); stands = C.last b m ∙ ap (last_where (is_in b)) (sym (take_all (length keys) keys (omega arith))) }

  module _ (next : Option ℕ) (i : ℕ) (S : IsSought b keys place next (Some i)) where
    in_part : i < length (take (before_next keys next) keys)
    in_part = where_within (is_in b) (take (before_next keys next) keys) i (sym S.stands)

    pub sought_within : (i < length keys) × (i < length before)
    sought_within = let w = in_part in let e = length-take (before_next keys next) keys in let g = C.long in (omega arith, omega arith)

    pub sought_in : is_in b (get_or keys i None) ≡ true
    sought_in =
        let w = in_part in
        let e = length-take (before_next keys next) keys in
        ap (is_in b) (sym (get_or-take (before_next keys next) keys i None (omega arith))) ∙ where_passes (is_in b) (take (before_next keys next) keys) i None (sym S.stands)

    pub sought_found : i ≤ place → IsNext b keys place next
    sought_found h = record { passed = S.passed; within = S.within; low = λ j e. let f : Some i ≡ Some j = S.stands ∙ e in let g : i ≡ j = cc in omega arith }

    pub sought_on : place < i → IsSought b keys place (Some i) (get_or before i None)
    sought_on n = record { passed = n; within = λ j e. subst (λ k. (k < length keys) × (is_in b (get_or keys k None) ≡ true)) (let s : i ≡ j = cc in s) (sought_within.0, sought_in); stands = C.earlier i b sought_within.0 sought_in }

  pub sought_ends : (next : Option ℕ) → IsSought b keys place next None → IsNext b keys place next
  sought_ends next S = record { passed = S.passed; within = S.within; low = λ j e. let f : None ≡ Some j = S.stands ∙ e in absurd (cc) }

-- ---- vectors
pub get_default : (xs : List (Option ℕ)) (i : ℕ) (x : Option ℕ) → i < length xs → x ≡ get_or xs i x → x ≡ get_or xs i None
get_default [] i x l h = absurd (omega arith)
get_default (y ∷ xs) zero x l h = h
get_default (y ∷ xs) (suc i) x l h = get_default xs i x (omega arith) h
