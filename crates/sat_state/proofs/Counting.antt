-- What a new literal takes from the counters of clauses.
use Rattle.std.proofs.Common.{◌≡◌, ◌≢◌, ◌⊎◌, inl, inr, ℕ, ◌+◌, ◌-◌, ◌<◌, ◌≤◌, Bool, true, false, not, cond, Option, Some, None, List, [], ◌∷◌, ◌++◌, length, get_or, set, take, drop, Contains, refl, sym, ap, ◌∙◌, subst, arith, get_or-set_same, get_or-set_other}
use Rattle.std.specs.Prelude.{slice_get, is_some}
use Rattle.std.proofs.lemmas.Bool.{cases_eq, cases_lt, cases_order}
use Rattle.std.proofs.lemmas.List.{get_or_past, get_or_append_left, get_or_push, length_push, append-nil, get_or_read, take-append-drop}
use Rattle.std.proofs.lemmas.Option.{get_or_from_slice_get, slice_get_within}
use Rattle.std.proofs.lemmas.List.Elements.{filter-append, filter_more}
use Rattle.log_law.specs.declared.Lit.{Lit}
use Rattle.log_law.specs.Clauses.{Clause, negated}
use Rattle.log_law.specs.Units.{Partial, value, opposes, remaining, IsLitFalse, IsUnassigned, IsFalsified, IsUnit, IsStill}
use Rattle.log_law.proofs.Lists.{contains_here, contains_one}
use Rattle.log_law.proofs.Values.{AreApart, negated_twice, not_not, value_here, lit_false_member, none_is, value_left, value_right, open_in, lit_false_or_not, remaining_drops, remaining_stays, remaining_from, falsified_none, none_falsified}
use Rattle.log_law.proofs.UnitFacts.{still_from, still_to}
use Rattle.sat_state.specs.Tables.{slot, slots, times, clause_no, IsCounted}
use Rattle.sat_state.proofs.Pieces.{times_here, times_later, times_more, times_take}
use Rattle.sat_state.proofs.Indexing.{slot_same}

-- ---- counters
-- one down
pub down_more : (first now list : List ℕ) (k c : ℕ) → k < length list → 1 ≤ get_or now (get_or list k 0) 0
    → ((d : ℕ) → get_or first d 0 ≡ get_or now d 0 + times d (take k list))
    → get_or first c 0 ≡ get_or (set now (get_or list k 0) (get_or now (get_or list k 0) 0 - 1)) c 0 + times c (take (k + 1) list)
down_more first now list k c l one inv = by_number (cases_eq x c)
  where
    x : ℕ
    x = get_or list k 0

    within : (x < length now) ⊎ (length now ≤ x) → x < length now
    within (inl b) = b
    within (inr b) = let e : get_or now x 0 ≡ 0 = get_or_past now x 0 b in absurd (omega arith)

    by_number : (x ≡ c) ⊎ (x ≢ c) → get_or first c 0 ≡ get_or (set now x (get_or now x 0 - 1)) c 0 + times c (take (k + 1) list)
    by_number (inl e) =
        let a : get_or (set now x (get_or now x 0 - 1)) c 0 ≡ get_or now x 0 - 1 = ap (λ y. get_or (set now x (get_or now x 0 - 1)) y 0) (sym e) ∙ get_or-set_same now x (get_or now x 0 - 1) 0 (within (cases_lt x (length now))) in
        let b = times_more c list k l in
        let t = times_here c x [] e in
        let i : get_or first c 0 ≡ get_or now x 0 + times c (take k list) = inv c ∙ ap (λ y. get_or now y 0 + times c (take k list)) (sym e) in
        omega arith
    by_number (inr n) =
        let a : get_or (set now x (get_or now x 0 - 1)) c 0 ≡ get_or now c 0 = get_or-set_other now x c (get_or now x 0 - 1) 0 (λ e. n (sym e)) in
        let b = times_more c list k l in
        let t = times_later c x [] n in
        let i = inv c in
        omega arith

-- a number that is still to come has been counted
pub down_left : (first now list : List ℕ) (k : ℕ) → k < length list → ((d : ℕ) → times d list ≤ get_or first d 0)
    → ((d : ℕ) → get_or first d 0 ≡ get_or now d 0 + times d (take k list)) → 1 ≤ get_or now (get_or list k 0) 0
down_left first now list k l enough inv =
    let x : ℕ = get_or list k 0 in
    let a = enough x in
    let b = inv x in
    let m = times_more x list k l in
    let t = times_here x x [] refl in
    let u = times_take x (k + 1) list in
    omega arith

pub counted_within : (now : List ℕ) (x : ℕ) → 1 ≤ get_or now x 0 → x < length now
counted_within now x one = by_place (cases_lt x (length now))
  where
    by_place : (x < length now) ⊎ (length now ≤ x) → x < length now
    by_place (inl b) = b
    by_place (inr b) = let e : get_or now x 0 ≡ 0 = get_or_past now x 0 b in absurd (omega arith)

-- the same at a number that was read
pub down_read : (first now list : List ℕ) (k x : ℕ) → x ≡ get_or list k 0 → k < length list → ((d : ℕ) → times d list ≤ get_or first d 0)
    → ((d : ℕ) → get_or first d 0 ≡ get_or now d 0 + times d (take k list)) → 1 ≤ get_or now x 0
down_read first now list k x e l enough inv = subst (λ y. 1 ≤ get_or now y 0) (sym e) (down_left first now list k l enough inv)

-- a number at a place stands once more in the list than before it
pub among : (list : List ℕ) (k x : ℕ) → x ≡ get_or list k 0 → k < length list → times x (take k list) + 1 ≤ times x list
among list k x e l =
    let m = times_more x list k l in
    let t = times_here x (get_or list k 0) [] (sym e) in
    let u = times_take x (k + 1) list in
    omega arith

-- one up
pub up_more : (first now list : List ℕ) (k c : ℕ) → k < length list → get_or list k 0 < length now
    → ((d : ℕ) → get_or now d 0 ≡ get_or first d 0 + times d (take k list))
    → get_or (set now (get_or list k 0) (get_or now (get_or list k 0) 0 + 1)) c 0 ≡ get_or first c 0 + times c (take (k + 1) list)
up_more first now list k c l within inv = by_number (cases_eq x c)
  where
    x : ℕ
    x = get_or list k 0

    by_number : (x ≡ c) ⊎ (x ≢ c) → get_or (set now x (get_or now x 0 + 1)) c 0 ≡ get_or first c 0 + times c (take (k + 1) list)
    by_number (inl e) =
        let a : get_or (set now x (get_or now x 0 + 1)) c 0 ≡ get_or now x 0 + 1 = ap (λ y. get_or (set now x (get_or now x 0 + 1)) y 0) (sym e) ∙ get_or-set_same now x (get_or now x 0 + 1) 0 within in
        let b = times_more c list k l in
        let t = times_here c x [] e in
        let i : get_or now x 0 ≡ get_or first c 0 + times c (take k list) = ap (λ y. get_or now y 0) e ∙ inv c in
        omega arith
    by_number (inr n) =
        let a : get_or (set now x (get_or now x 0 + 1)) c 0 ≡ get_or now c 0 = get_or-set_other now x c (get_or now x 0 + 1) 0 (λ e. n (sym e)) in
        let b = times_more c list k l in
        let t = times_later c x [] n in
        let i = inv c in
        omega arith

-- ---- what more literals make false
pub false_split : (P Q : Partial) (k : Lit) → IsLitFalse (P ++ Q) k → IsLitFalse P k ⊎ Contains Q (negated k)
false_split P Q k h = by_value (value P k.var) refl
  where
    by_value : (o : Option Bool) → value P k.var ≡ o → IsLitFalse P k ⊎ Contains Q (negated k)
    by_value (Some b) e = inl (e ∙ (sym (value_left P Q k.var b e) ∙ h))
    by_value None e = inr (lit_false_member Q k (sym (value_right P Q k.var e) ∙ h))

pub one_false : (P : Partial) (l k : Lit) → IsLitFalse (P ++ l ∷ []) k → IsLitFalse P k ⊎ (k ≡ negated l)
one_false P l k h = by_split (false_split P (l ∷ []) k h)
  where
    by_split : IsLitFalse P k ⊎ Contains (l ∷ []) (negated k) → IsLitFalse P k ⊎ (k ≡ negated l)
    by_split (inl f) = inl f
    by_split (inr c) = inr (sym (negated_twice k) ∙ ap negated (contains_one (negated k) l c))

pub false_stays : (P Q : Partial) (k : Lit) → IsLitFalse P k → IsLitFalse (P ++ Q) k
false_stays P Q k h = value_left P Q k.var (not k.on) h

-- what was still stays so, where no literal of it is made false
pub still_stays : (P Q : Partial) (c : Clause) → AreApart c → IsStill P c → ((k : Lit) → Contains c k → ¬ Contains Q (negated k)) → IsStill (P ++ Q) c
still_stays P Q c apart s free = by_case (still_to P c apart s)
  where
    opened : (k : Lit) → Contains c k → ¬ IsLitFalse P k → ¬ IsLitFalse (P ++ Q) k
    opened k h n f = by_split (false_split P Q k f)
      where
        by_split : IsLitFalse P k ⊎ Contains Q (negated k) → ⊥
        by_split (inl g) = n g
        by_split (inr d) = free k h d

    by_case : ((l : Lit) × Contains c l × (value P l.var ≡ Some l.on)) ⊎ ((k : Lit) × (l : Lit) × Contains c k × Contains c l × (k ≢ l) × (¬ IsLitFalse P k) × (¬ IsLitFalse P l)) → IsStill (P ++ Q) c
    by_case (inl (l, h, t)) = still_from (P ++ Q) c (inl (l, h, value_left P Q l.var l.on t))
    by_case (inr (k, l, hk, hl, n, fk, fl)) = still_from (P ++ Q) c (inr (k, l, hk, hl, n, opened k hk fk, opened l hl fl))

-- ---- and what is left of a clause
pub left_push : (P : Partial) (l : Lit) (c : Clause) → IsUnassigned P l → length (remaining P c) ≡ length (remaining (P ++ l ∷ []) c) + times (slot (negated l)) (slots c)
left_push P l [] free = refl
left_push P l (k ∷ c) free = by_slot (cases_eq (slot k) (slot (negated l))) (left_push P l c free)
  where
    Q : Partial
    Q = P ++ l ∷ []

    Goal : Type 0
    Goal = length (remaining P (k ∷ c)) ≡ length (remaining Q (k ∷ c)) + times (slot (negated l)) (slots (k ∷ c))

    by_open : slot k ≢ slot (negated l) → length (remaining P c) ≡ length (remaining Q c) + times (slot (negated l)) (slots c) → IsLitFalse P k ⊎ (¬ IsLitFalse P k) → Goal
    by_open n again (inl f) =
        let a = ap length (remaining_drops P k c f) in
        let b = ap length (remaining_drops Q k c (false_stays P (l ∷ []) k f)) in
        let t = times_later (slot (negated l)) (slot k) (slots c) n in
        omega arith
    by_open n again (inr f) =
        let a = ap length (remaining_stays P k c f) in
        let b = ap length (remaining_stays Q k c (λ g. differs (one_false P l k g))) in
        let t = times_later (slot (negated l)) (slot k) (slots c) n in
        omega arith
      where
        differs : IsLitFalse P k ⊎ (k ≡ negated l) → ⊥
        differs (inl g) = f g
        differs (inr e) = n (ap slot e)

    by_slot : (slot k ≡ slot (negated l)) ⊎ (slot k ≢ slot (negated l)) → length (remaining P c) ≡ length (remaining Q c) + times (slot (negated l)) (slots c) → Goal
    by_slot (inl e) again =
        let i : k ≡ negated l = slot_same k (negated l) e in
        let v : value P k.var ≡ None = ap (λ (x : Lit). value P x.var) i ∙ free in
        let a = ap length (remaining_stays P k c (λ f. none_is (sym f ∙ v))) in
        let w : IsLitFalse Q k = value_right P (l ∷ []) k.var v ∙ now_false i in
        let b = ap length (remaining_drops Q k c w) in
        let t = times_here (slot (negated l)) (slot k) (slots c) e in
        omega arith
      where
        now_false : k ≡ negated l → value (l ∷ []) k.var ≡ Some (not k.on)
        now_false i = value_here [] l k.var (sym (ap (λ (x : Lit). x.var) i)) ∙ sym (ap (λ (x : Lit). Some (not x.on)) i ∙ ap (λ (b : Bool). Some b) (not_not l.on))
    by_slot (inr n) again = by_open n again (lit_false_or_not P k)

pub left_within : (P : Partial) (c : Clause) → length (remaining P c) ≤ length c
left_within P [] = omega arith
left_within P (l ∷ c) = by_false (lit_false_or_not P l) (left_within P c)
  where
    by_false : IsLitFalse P l ⊎ (¬ IsLitFalse P l) → length (remaining P c) ≤ length c → length (remaining P (l ∷ c)) ≤ length (l ∷ c)
    by_false (inl f) again = let a = ap length (remaining_drops P l c f) in omega arith
    by_false (inr n) again = let a = ap length (remaining_stays P l c n) in omega arith

-- ---- so the counters are right after a new literal, or without it
pub counted_enough : (P : Partial) (l : Lit) (clauses : List Clause) (left list : List ℕ) → IsCounted P clauses left → IsUnassigned P l
    → ((c : ℕ) → times c list ≡ times (slot (negated l)) (slots (clause_no clauses c))) → (c : ℕ) → times c list ≤ get_or left c 0
counted_enough P l clauses left list C free same c =
    let a = C c in
    let b = left_push P l (clause_no clauses c) free in
    let e = same c in
    omega arith

pub counted_push : (P : Partial) (l : Lit) (clauses : List Clause) (left next list : List ℕ) → IsCounted P clauses left → IsUnassigned P l
    → ((c : ℕ) → times c list ≡ times (slot (negated l)) (slots (clause_no clauses c))) → ((c : ℕ) → get_or left c 0 ≡ get_or next c 0 + times c list) → IsCounted (P ++ l ∷ []) clauses next
counted_push P l clauses left next list C free same down c =
    let a = C c in
    let b = left_push P l (clause_no clauses c) free in
    let e = same c in
    let d = down c in
    omega arith

pub counted_pop : (P : Partial) (l : Lit) (clauses : List Clause) (left next list : List ℕ) → IsCounted (P ++ l ∷ []) clauses left → IsUnassigned P l
    → ((c : ℕ) → times c list ≡ times (slot (negated l)) (slots (clause_no clauses c))) → ((c : ℕ) → get_or next c 0 ≡ get_or left c 0 + times c list) → IsCounted P clauses next
counted_pop P l clauses left next list C free same up c =
    let a = C c in
    let b = left_push P l (clause_no clauses c) free in
    let e = same c in
    let d = up c in
    omega arith

-- a counter never passes the length of its clause
pub counted_small : (P : Partial) (l : Lit) (clauses : List Clause) (left list : List ℕ) (n : ℕ) → IsCounted (P ++ l ∷ []) clauses left → IsUnassigned P l
    → ((c : ℕ) → times c list ≡ times (slot (negated l)) (slots (clause_no clauses c))) → ((c : ℕ) → length (clause_no clauses c) ≤ n) → (c : ℕ) → get_or left c 0 + times c list ≤ n
counted_small P l clauses left list n C free same short c =
    let a = C c in
    let b = left_push P l (clause_no clauses c) free in
    let e = same c in
    let s = short c in
    let w = left_within P (clause_no clauses c) in
    omega arith

-- with one more clause
pub counted_hold : (P : Partial) (clauses : List Clause) (clause : Clause) (left : List ℕ) (n : ℕ) → IsCounted P clauses left → length left ≡ length clauses → n ≡ length (remaining P clause) → IsCounted P (clauses ++ clause ∷ []) (left ++ n ∷ [])
counted_hold P clauses clause left n C same is c = by_place (cases_order c (length clauses))
  where
    by_place : (c ≡ length clauses) ⊎ ((c < length clauses) ⊎ (length clauses < c)) → get_or (left ++ n ∷ []) c 0 ≡ length (remaining P (clause_no (clauses ++ clause ∷ []) c))
    by_place (inl e) = get_or_push left n 0 c (same ∙ sym e) ∙ (is ∙ ap (λ d. length (remaining P d)) (sym (get_or_push clauses clause [] c (sym e))))
    by_place (inr (inl l)) = get_or_append_left left (n ∷ []) 0 c (omega arith) ∙ (C c ∙ ap (λ d. length (remaining P d)) (sym (get_or_append_left clauses (clause ∷ []) [] c l)))
    by_place (inr (inr l)) =
        get_or_past (left ++ n ∷ []) c 0 (omega (arith, length_push left n)) ∙ ap (λ d. length (remaining P d)) (sym (get_or_past (clauses ++ clause ∷ []) c [] (omega (arith, length_push clauses clause))))

-- ---- what the counter and the first literal that isn't false tell
pub still_many : (P : Partial) (c : Clause) → 1 < length (remaining P c) → IsStill P c
still_many P c h = record {
  unfalsified = λ F. let e = ap length (falsified_none P c F) in omega arith;
  not_unit = λ l u. let e = ap length u.alone in omega arith;
}

pub none_left : (P : Partial) (c : Clause) → None ≡ slice_get (remaining P c) 0 → IsFalsified P c
none_left P c e = by_left (remaining P c) refl e
  where
    by_left : (r : List Lit) → remaining P c ≡ r → None ≡ slice_get r 0 → IsFalsified P c
    by_left [] i f = none_falsified P c i
    by_left (l ∷ r) i f = cc

pub one_left : (P : Partial) (c : Clause) (l : Lit) → length (remaining P c) ≤ 1 → Some l ≡ slice_get (remaining P c) 0 → remaining P c ≡ l ∷ []
one_left P c l h e = by_left (remaining P c) refl e
  where
    by_left : (r : List Lit) → remaining P c ≡ r → Some l ≡ slice_get r 0 → remaining P c ≡ l ∷ []
    by_left [] i f = cc
    by_left (k ∷ []) i f = let s : l ≡ k = cc in i ∙ ap (λ (x : Lit). x ∷ []) (sym s)
    by_left (k ∷ (m ∷ r)) i f = let n = ap length i in absurd (omega arith)

pub still_assigned : (P : Partial) (c : Clause) (l : Lit) → remaining P c ≡ l ∷ [] → value P l.var ≢ None → IsStill P c
still_assigned P c l e n = record {
  unfalsified = λ F. let i : l ∷ [] ≡ [] = sym e ∙ falsified_none P c F in cc;
  not_unit = λ m u. let i : l ≡ m = first (sym e ∙ u.alone) in n (ap (λ (x : Lit). value P x.var) i ∙ u.unassigned);
}
  where
    first : {k m : Lit} → k ∷ [] ≡ m ∷ [] → k ≡ m
    first {k} {m} i = cc

-- one more literal of a clause
taken : (P : Partial) (c : Clause) (i : ℕ) (x : Lit) → slice_get c i ≡ Some x → remaining P (take (i + 1) c) ≡ remaining P (take i c) ++ cond (open_in P x) (x ∷ []) []
taken P c i x s = subst (λ (y : Lit). remaining P (take (i + 1) c) ≡ remaining P (take i c) ++ cond (open_in P y) (y ∷ []) []) (get_or_from_slice_get c i x x s) (filter_more (open_in P) c i x (slice_get_within c i x s))

pub left_skip : (P : Partial) (c : Clause) (i : ℕ) (x : Lit) → slice_get c i ≡ Some x → true ≡ opposes (value P x.var) x.on → remaining P (take (i + 1) c) ≡ remaining P (take i c)
left_skip P c i x s t = taken P c i x s ∙ (ap (λ b. remaining P (take i c) ++ cond (not b) (x ∷ []) []) (sym t) ∙ append-nil (remaining P (take i c)))

pub left_keep : (P : Partial) (c : Clause) (i : ℕ) (x : Lit) → slice_get c i ≡ Some x → false ≡ opposes (value P x.var) x.on → remaining P (take (i + 1) c) ≡ remaining P (take i c) ++ x ∷ []
left_keep P c i x s f = taken P c i x s ∙ ap (λ b. remaining P (take i c) ++ cond (not b) (x ∷ []) []) (sym f)

pub left_first : (P : Partial) (c : Clause) (i : ℕ) (x : Lit) → slice_get c i ≡ Some x → false ≡ opposes (value P x.var) x.on → remaining P (take i c) ≡ [] → Some x ≡ slice_get (remaining P c) 0
left_first P c i x s f none = sym (ap (λ r. slice_get r 0) whole)
  where
    whole : remaining P c ≡ x ∷ remaining P (drop (i + 1) c)
    whole =
        ap (remaining P) (sym (take-append-drop (i + 1) c))
        ∙ (filter-append (open_in P) (take (i + 1) c) (drop (i + 1) c)
        ∙ ap (λ r. r ++ remaining P (drop (i + 1) c)) (left_keep P c i x s f ∙ ap (λ r. r ++ x ∷ []) none))

-- ---- a look by the counter
pub look_many : (P : Partial) (clauses : List Clause) (left : List ℕ) (c x : ℕ) → IsCounted P clauses left → c < length left → x ≡ get_or left c x → 1 < x → IsStill P (clause_no clauses c)
look_many P clauses left c x C l e m = let r = get_or_read left c x l e 0 in let n = C c in still_many P (clause_no clauses c) (omega arith)

pub look_few : (P : Partial) (clauses : List Clause) (left : List ℕ) (c x : ℕ) (l : Lit) → IsCounted P clauses left → c < length left → x ≡ get_or left c x → x ≤ 1 → Some l ≡ slice_get (remaining P (clause_no clauses c)) 0 → remaining P (clause_no clauses c) ≡ l ∷ []
look_few P clauses left c x l C b e m s = let r = get_or_read left c x b e 0 in let n = C c in one_left P (clause_no clauses c) l (omega arith) s

pub first_member : (P : Partial) (c : Clause) (l : Lit) → Some l ≡ slice_get (remaining P c) 0 → Contains c l
first_member P c l e = by_left (remaining P c) refl e
  where
    by_left : (r : List Lit) → remaining P c ≡ r → Some l ≡ slice_get r 0 → Contains c l
    by_left [] i f = cc
    by_left (k ∷ r) i f = let s : k ≡ l = cc in let h = remaining_from P c l (subst (λ x. Contains x l) (sym i) (contains_here l k r s)) in h.0

pub some_assigned : (P : Partial) (v : ℕ) (o : Option Bool) → o ≡ value P v → true ≡ is_some o → value P v ≢ None
some_assigned P v None e t = cc
some_assigned P v (Some b) e t = λ n. none_is (e ∙ n)

pub none_unassigned : (P : Partial) (v : ℕ) (o : Option Bool) → o ≡ value P v → false ≡ is_some o → value P v ≡ None
none_unassigned P v None e t = sym e
none_unassigned P v (Some b) e t = cc

pub unit_left : (P : Partial) (c : Clause) (l : Lit) → remaining P c ≡ l ∷ [] → value P l.var ≡ None → IsUnit P c l
unit_left P c l e n = record { unassigned = n; alone = e }
