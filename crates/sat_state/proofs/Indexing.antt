-- For each literal the clauses that have it.
use Rattle.std.proofs.Common.{◌≡◌, ◌≢◌, ◌⊎◌, inl, inr, ℕ, ◌+◌, ◌-◌, ◌*◌, ◌<◌, ◌≤◌, Bool, true, false, cond, List, [], ◌∷◌, ◌++◌, length, get_or, set, take, Contains, refl, sym, ap, ◌∙◌, subst, arith, get_or-set_same, get_or-set_other}
use Rattle.std.specs.Prelude.{All, nat_eq, Some, slice_get}
use Rattle.std.proofs.lemmas.Bool.{cases_eq, cases_order, eq-eqb, ne_eqb, cases_lt}
use Rattle.std.proofs.lemmas.List.{get_or_append_left, get_or_push, get_or_past, get_or_default, length_push, length-set, set-set, set-get_or, take_at, length-map, get_or-map, take_all, take_more}
use Rattle.std.proofs.lemmas.Option.{get_or_from_slice_get, slice_get_within}
use Rattle.std.proofs.lemmas.List.Elements.{All-head, All-tail, All-weaker, All-map}
use Rattle.log_law.specs.declared.Lit.{Lit}
use Rattle.log_law.specs.Clauses.{Clause, IsVariable, IsClause}
use Rattle.log_law.proofs.Lists.{contains_map, map_from}
use Rattle.log_law.proofs.Values.{lit_same}
use Rattle.sat_state.specs.Tables.{slot, slots, uses_at, enlisted, times, clause_no, IsIndexed}
use Rattle.sat_state.proofs.Pieces.{times_here, times_later, times_append, member_times, times_member}

-- ---- slots
pub slot_same : (k l : Lit) → slot k ≡ slot l → k ≡ l
slot_same k l e = by_signs k.on l.on refl refl
  where
    by_signs : (a b : Bool) → k.on ≡ a → l.on ≡ b → k ≡ l
    by_signs true true p q =
        let s : 2 * k.var + 1 ≡ 2 * l.var + 1 = ap (λ x. 2 * k.var + cond x 1 0) (sym p) ∙ (e ∙ ap (λ x. 2 * l.var + cond x 1 0) q) in
        lit_same k l (omega arith) (p ∙ sym q)
    by_signs false false p q =
        let s : 2 * k.var + 0 ≡ 2 * l.var + 0 = ap (λ x. 2 * k.var + cond x 1 0) (sym p) ∙ (e ∙ ap (λ x. 2 * l.var + cond x 1 0) q) in
        lit_same k l (omega arith) (p ∙ sym q)
    by_signs true false p q =
        let s : 2 * k.var + 1 ≡ 2 * l.var + 0 = ap (λ x. 2 * k.var + cond x 1 0) (sym p) ∙ (e ∙ ap (λ x. 2 * l.var + cond x 1 0) q) in
        absurd (omega arith)
    by_signs false true p q =
        let s : 2 * k.var + 0 ≡ 2 * l.var + 1 = ap (λ x. 2 * k.var + cond x 1 0) (sym p) ∙ (e ∙ ap (λ x. 2 * l.var + cond x 1 0) q) in
        absurd (omega arith)

pub slot_below : (l : Lit) (n : ℕ) → l.var ≤ n → slot l < 2 * n + 2
slot_below l n h = by_sign l.on
  where
    by_sign : (b : Bool) → 2 * l.var + cond b 1 0 < 2 * n + 2
    by_sign true = omega arith
    by_sign false = omega arith

pub slots_below : (n : ℕ) (clause : Clause) → IsClause n clause → All (λ s. s < 2 * n + 2) (slots clause)
slots_below n clause fit = All-map (λ s. s < 2 * n + 2) slot clause (All-weaker (λ l. IsVariable n l.var) (λ l. slot l < 2 * n + 2) (λ l h. slot_below l n h.1) clause fit.in_range)

pub slot_member : (clause : Clause) (l : Lit) → 0 < times (slot l) (slots clause) → Contains clause l
slot_member clause l h = from (map_from slot clause (slot l) (times_member (slot l) (slots clause) h))
  where
    from : (k : Lit) × Contains clause k × (slot k ≡ slot l) → Contains clause l
    from (k, c, e) = subst (Contains clause) (slot_same k l e) c

pub member_slot : (clause : Clause) (l : Lit) → Contains clause l → 0 < times (slot l) (slots clause)
member_slot clause l c = member_times (slot l) (slots clause) (contains_map slot clause l c)

-- ---- one more number
pub enlisted_more : (uses : List (List ℕ)) (ss : List ℕ) (s number : ℕ) → enlisted uses (ss ++ s ∷ []) number ≡ set (enlisted uses ss number) s (uses_at (enlisted uses ss number) s ++ number ∷ [])
enlisted_more uses [] s number = refl
enlisted_more uses (t ∷ ss) s number = enlisted_more (set uses t (uses_at uses t ++ number ∷ [])) ss s number

pub enlisted_length : (uses : List (List ℕ)) (ss : List ℕ) (number : ℕ) → length (enlisted uses ss number) ≡ length uses
enlisted_length uses [] number = refl
enlisted_length uses (t ∷ ss) number = enlisted_length (set uses t (uses_at uses t ++ number ∷ [])) ss number ∙ length-set uses t (uses_at uses t ++ number ∷ [])

-- and without it again
pub struck : (uses : List (List ℕ)) (s number : ℕ) → s < length uses
    → set (set uses s (uses_at uses s ++ number ∷ [])) s (take (length (uses_at (set uses s (uses_at uses s ++ number ∷ [])) s) - 1) (uses_at (set uses s (uses_at uses s ++ number ∷ [])) s)) ≡ uses
struck uses s number b =
    let more : List ℕ = uses_at uses s ++ number ∷ [] in
    let e : uses_at (set uses s more) s ≡ more = get_or-set_same uses s more [] b in
    let t : take (length more - 1) more ≡ uses_at uses s = take_at (uses_at uses s) (number ∷ []) (length more - 1) (omega (arith, length_push (uses_at uses s) number)) in
    ap (λ xs. set (set uses s more) s (take (length xs - 1) xs)) e ∙ (ap (set (set uses s more) s) t ∙ (set-set uses s more (uses_at uses s) ∙ set-get_or uses s []))

pub enlisted_times : (uses : List (List ℕ)) (ss : List ℕ) (number c s : ℕ) → All (λ t. t < length uses) ss
    → times c (uses_at (enlisted uses ss number) s) ≡ times c (uses_at uses s) + cond (nat_eq number c) (times s ss) 0
enlisted_times uses [] number c s h = by_test (nat_eq number c)
  where
    by_test : (b : Bool) → times c (uses_at uses s) ≡ times c (uses_at uses s) + cond b 0 0
    by_test true = omega arith
    by_test false = omega arith
enlisted_times uses (t ∷ ss) number c s h =
    by_cases (cases_eq t s) (cases_eq number c) (enlisted_times next ss number c s (All-weaker (λ x. x < length uses) (λ x. x < length next) (λ x l. omega (arith, length-set uses t more)) ss (All-tail (λ x. x < length uses) t ss h)))
  where
    more : List ℕ
    more = uses_at uses t ++ number ∷ []

    next : List (List ℕ)
    next = set uses t more

    within : t < length uses
    within = All-head (λ x. x < length uses) t ss h

    at_same : t ≡ s → times c (uses_at next s) ≡ times c (uses_at uses s) + times c (number ∷ [])
    at_same e =
        ap (λ x. times c (uses_at next x)) (sym e) ∙ (ap (times c) (get_or-set_same uses t more [] within) ∙ (times_append c (uses_at uses t) (number ∷ []) ∙ ap (λ x. times c (uses_at uses x) + times c (number ∷ [])) e))

    at_other : t ≢ s → times c (uses_at next s) ≡ times c (uses_at uses s)
    at_other n = ap (times c) (get_or-set_other uses t s more [] (λ e. n (sym e)))

    by_cases : (t ≡ s) ⊎ (t ≢ s) → (number ≡ c) ⊎ (number ≢ c)
        → times c (uses_at (enlisted next ss number) s) ≡ times c (uses_at next s) + cond (nat_eq number c) (times s ss) 0
        → times c (uses_at (enlisted next ss number) s) ≡ times c (uses_at uses s) + cond (nat_eq number c) (times s (t ∷ ss)) 0
    by_cases (inl e) (inl f) again =
        let b : nat_eq number c ≡ true = eq-eqb number c f in
        let x = ap (λ v. times c (uses_at next s) + cond v (times s ss) 0) b in
        let y = ap (λ v. times c (uses_at uses s) + cond v (times s (t ∷ ss)) 0) b in
        let p = at_same e in
        let q = times_here c number [] f in
        let r = times_here s t ss e in
        omega arith
    by_cases (inl e) (inr f) again =
        let b : nat_eq number c ≡ false = ne_eqb number c f in
        let x = ap (λ v. times c (uses_at next s) + cond v (times s ss) 0) b in
        let y = ap (λ v. times c (uses_at uses s) + cond v (times s (t ∷ ss)) 0) b in
        let p = at_same e in
        let q = times_later c number [] f in
        omega arith
    by_cases (inr e) f again =
        let p = at_other e in
        let r = times_later s t ss e in
        let y = ap (λ v. times c (uses_at uses s) + cond (nat_eq number c) v 0) r in
        omega arith

pub clause_no_left : (clauses : List Clause) (clause : Clause) (c : ℕ) → c < length clauses → clause_no (clauses ++ clause ∷ []) c ≡ clause_no clauses c
clause_no_left clauses clause c l = get_or_append_left clauses (clause ∷ []) [] c l

pub indexed_push : (clauses : List Clause) (clause : Clause) (uses : List (List ℕ)) → IsIndexed clauses uses → All (λ s. s < length uses) (slots clause) → IsIndexed (clauses ++ clause ∷ []) (enlisted uses (slots clause) (length clauses))
indexed_push clauses clause uses I h s c = by_number (cases_order c (length clauses))
  where
    all : times c (uses_at (enlisted uses (slots clause) (length clauses)) s) ≡ times c (uses_at uses s) + cond (nat_eq (length clauses) c) (times s (slots clause)) 0
    all = enlisted_times uses (slots clause) (length clauses) c s h

    other : c ≢ length clauses → times c (uses_at uses s) + cond (nat_eq (length clauses) c) (times s (slots clause)) 0 ≡ times s (slots (clause_no clauses c))
    other n = let b : nat_eq (length clauses) c ≡ false = ne_eqb (length clauses) c (λ e. n (sym e)) in let y = ap (λ v. times c (uses_at uses s) + cond v (times s (slots clause)) 0) b in let i = I s c in omega arith

    by_number : (c ≡ length clauses) ⊎ ((c < length clauses) ⊎ (length clauses < c)) → times c (uses_at (enlisted uses (slots clause) (length clauses)) s) ≡ times s (slots (clause_no (clauses ++ clause ∷ []) c))
    by_number (inl e) =
        let b : nat_eq (length clauses) c ≡ true = eq-eqb (length clauses) c (sym e) in
        let y = ap (λ v. times c (uses_at uses s) + cond v (times s (slots clause)) 0) b in
        let i : times c (uses_at uses s) ≡ 0 = I s c ∙ ap (λ d. times s (slots d)) (get_or_past clauses c [] (omega arith)) in
        let j : times s (slots (clause_no (clauses ++ clause ∷ []) c)) ≡ times s (slots clause) = ap (λ d. times s (slots d)) (get_or_push clauses clause [] c (sym e)) in
        let a = all in
        omega (arith, a, y, i, j)
    by_number (inr (inl l)) =
        let n : c ≢ length clauses = λ e. absurd (omega arith) in
        all ∙ (other n ∙ ap (λ d. times s (slots d)) (sym (clause_no_left clauses clause c l)))
    by_number (inr (inr l)) =
        let n : c ≢ length clauses = λ e. absurd (omega arith) in
        let p : clause_no clauses c ≡ [] = get_or_past clauses c [] (omega arith) in
        let q : clause_no (clauses ++ clause ∷ []) c ≡ [] = get_or_past (clauses ++ clause ∷ []) c [] (omega (arith, length_push clauses clause)) in
        all ∙ (other n ∙ ap (λ d. times s (slots d)) (p ∙ sym q))

-- ---- the users of a literal
pub user_within : (clauses : List Clause) (uses : List (List ℕ)) → IsIndexed clauses uses → (s c : ℕ) → Contains (uses_at uses s) c → c < length clauses
user_within clauses uses I s c h = by_place (cases_lt c (length clauses))
  where
    by_place : (c < length clauses) ⊎ (length clauses ≤ c) → c < length clauses
    by_place (inl l) = l
    by_place (inr l) =
        let i : times c (uses_at uses s) ≡ 0 = I s c ∙ ap (λ d. times s (slots d)) (get_or_past clauses c [] l) in
        let m = member_times c (uses_at uses s) h in
        absurd (omega arith)

pub user_from : (clauses : List Clause) (uses : List (List ℕ)) → IsIndexed clauses uses → (l : Lit) (c : ℕ) → Contains (clause_no clauses c) l → Contains (uses_at uses (slot l)) c
user_from clauses uses I l c h =
    let i = I (slot l) c in
    let m = member_slot (clause_no clauses c) l h in
    times_member c (uses_at uses (slot l)) (omega arith)

-- ---- a clause's literals one by one
slot_at : (clause : Clause) (i : ℕ) (x : Lit) → slice_get clause i ≡ Some x → get_or (slots clause) i 0 ≡ slot x
slot_at clause i x s = get_or-map slot clause i x 0 (slice_get_within clause i x s) ∙ ap slot (get_or_from_slice_get clause i x x s)

slots_more : (clause : Clause) (i : ℕ) (x : Lit) → slice_get clause i ≡ Some x → take (i + 1) (slots clause) ≡ take i (slots clause) ++ slot x ∷ []
slots_more clause i x s =
    take_more (slots clause) i 0 (omega (arith, length-map clause slot, slice_get_within clause i x s)) ∙ ap (λ y. take i (slots clause) ++ y ∷ []) (slot_at clause i x s)

pub slot_within : (clause : Clause) (i : ℕ) (x : Lit) (n : ℕ) → slice_get clause i ≡ Some x → All (λ s. s < n) (slots clause) → slot x < n
slot_within clause i x n s h = subst (λ y. y < n) (slot_at clause i x s) (h i 0 (omega (arith, length-map clause slot, slice_get_within clause i x s)))

pub enlist_step : (before uses : List (List ℕ)) (clause : Clause) (i : ℕ) (x : Lit) (number s : ℕ) (d : List ℕ) → slice_get clause i ≡ Some x → s ≡ slot x → s < length uses
    → uses ≡ enlisted before (take i (slots clause)) number → set uses s (get_or uses s d ++ number ∷ []) ≡ enlisted before (take (i + 1) (slots clause)) number
enlist_step before uses clause i x number s d got e b u =
    ap (λ (y : List ℕ). set uses s (y ++ number ∷ [])) (get_or_default uses s d [] b)
    ∙ (ap (λ y. set uses y (uses_at uses y ++ number ∷ [])) e
    ∙ (ap (λ (v : List (List ℕ)). set v (slot x) (uses_at v (slot x) ++ number ∷ [])) u
    ∙ (sym (enlisted_more before (take i (slots clause)) (slot x) number) ∙ ap (λ ss. enlisted before ss number) (sym (slots_more clause i x got)))))

pub strike_step : (before uses : List (List ℕ)) (clause : Clause) (i : ℕ) (x : Lit) (number s : ℕ) (d : List ℕ) → slice_get clause i ≡ Some x → s ≡ slot x → s < length uses → All (λ t. t < length before) (slots clause)
    → uses ≡ enlisted before (take (i + 1) (slots clause)) number → set uses s (take (length (get_or uses s d) - 1) (get_or uses s d)) ≡ enlisted before (take i (slots clause)) number
strike_step before uses clause i x number s d got e b h u =
    ap (λ (y : List ℕ). set uses s (take (length y - 1) y)) (get_or_default uses s d [] b)
    ∙ (ap (λ y. set uses y (take (length (uses_at uses y) - 1) (uses_at uses y))) e
    ∙ (ap (λ (v : List (List ℕ)). set v (slot x) (take (length (uses_at v (slot x)) - 1) (uses_at v (slot x)))) (u ∙ (ap (λ ss. enlisted before ss number) (slots_more clause i x got) ∙ enlisted_more before (take i (slots clause)) (slot x) number))
    ∙ struck (enlisted before (take i (slots clause)) number) (slot x) number (omega (arith, enlisted_length before (take i (slots clause)) number, slot_within clause i x (length before) got h))))

pub enlisted_all : (before : List (List ℕ)) (clause : Clause) (i number : ℕ) → length clause ≤ i → enlisted before (take i (slots clause)) number ≡ enlisted before (slots clause) number
enlisted_all before clause i number l = ap (λ ss. enlisted before ss number) (take_all i (slots clause) (omega (arith, length-map clause slot)))
