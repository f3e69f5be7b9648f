-- Which clauses are still, as unit steps are made.
use Rattle.std.proofs.Common.{◌≡◌, ◌≢◌, ◌⊎◌, inl, inr, ℕ, ◌+◌, ◌-◌, ◌<◌, ◌≤◌, Some, None, List, [], ◌∷◌, ◌++◌, length, get_or, take, Contains, refl, sym, ap, ◌∙◌, subst, arith}
use Rattle.std.specs.Prelude.{All}
use Rattle.std.proofs.lemmas.Bool.{cases_lt}
use Rattle.std.proofs.lemmas.List.{append-nil, append_assoc, length-append, get_or_append_left, get_or-append-add, get_or_past, get_or_default, map-append, take_more, take_all}
use Rattle.std.proofs.lemmas.List.Elements.{All-append, All-push, All-contains, Contains-push_cases}
use Rattle.log_law.specs.declared.Lit.{Lit}
use Rattle.log_law.specs.declared.Step.{Step}
use Rattle.log_law.specs.Clauses.{Clause, negated, IsVariable, IsClause}
use Rattle.log_law.specs.Units.{Partial, IsFalsified, IsUnit, IsStill, IsAtRest}
use Rattle.log_law.specs.Logs.{clause_at}
use Rattle.log_law.specs.Trails.{no_step, step_at, literals}
use Rattle.log_law.specs.SearchLaws.{IsConflict}
use Rattle.log_law.proofs.Lists.{map_from, contains_at}
use Rattle.log_law.proofs.Values.{negated_twice, value_right, value_here, unit_member}
use Rattle.log_law.proofs.UnitFacts.{still_from}
use Rattle.log_law.proofs.Search.{trail_unit}
use Rattle.sat_state.specs.Searches.{IsSearch, GoesOn}
use Rattle.sat_state.specs.Tables.{Table, search_of, slot, slots, times, uses_at, clause_no, IsIndexed, IsUntouched, IsSettled}
use Rattle.sat_state.proofs.Counting.{still_stays}
use Rattle.sat_state.proofs.Indexing.{slot_member, member_slot, user_from}

-- ---- clauses by their numbers and by their identifiers
pub clause_one : (clauses : List Clause) (c id : ℕ) → id ≡ c + 1 → clause_at clauses id ≡ clause_no clauses c
clause_one clauses c id e = let n : id - 1 ≡ c = omega arith in ap (clause_no clauses) n

pub conflict_at : (clauses : List Clause) (steps : List Step) (c id : ℕ) → id ≡ c + 1 → c < length clauses → IsFalsified (literals steps) (clause_no clauses c) → IsConflict clauses steps id
conflict_at clauses steps c id e l F = record {
  identifier = (omega arith, omega arith);
  falsified = subst (IsFalsified (literals steps)) (sym (clause_one clauses c id e)) F;
}

-- ---- one unit step
pub unit_range : (n : ℕ) (P : Partial) (c : Clause) (l : Lit) → IsClause n c → IsUnit P c l → IsVariable n l.var
unit_range n P c l fit u = All-contains (λ (k : Lit). IsVariable n k.var) c l fit.in_range (unit_member P c l u)

pub unit_made : (P : Partial) (c : Clause) (l : Lit) → IsUnit P c l → IsStill (P ++ l ∷ []) c
unit_made P c l u = still_from (P ++ l ∷ []) c (inl (l, unit_member P c l u, value_right P (l ∷ []) l.var u.unassigned ∙ value_here [] l l.var refl))

abbrev pub unit_step : Lit → ℕ → ℕ → Step
unit_step l level id = record { literal = l; level = level; reason = Some id }

pub search_unit : (table : Table) (level c id : ℕ) (l : Lit) → IsSearch (search_of table level) → c < length table.clauses → id ≡ c + 1 → IsUnit (literals table.steps) (clause_no table.clauses c) l
    → IsSearch (search_of (record table { steps = table.steps ++ unit_step l level id ∷ [] }) level)
search_unit table level c id l S b e u = record {
  clauses_fit = S.clauses_fit;
  few = S.few;
  in_range = All-push (λ (s : Step). IsVariable table.variables s.literal.var) table.steps (unit_step l level id) S.in_range (unit_range table.variables (literals table.steps) (clause_no table.clauses c) l (S.clauses_fit c [] b) u);
  trail = trail_unit table.clauses table.steps level S.trail l id (omega arith, omega arith) (subst (λ (d : Clause). IsUnit (literals table.steps) d l) (sym (clause_one table.clauses c id e)) u);
}

pub literals_on : (steps more : List Step) → literals (steps ++ more) ≡ literals steps ++ literals more
literals_on steps more = map-append (λ (s : Step). s.literal) steps more

-- ---- a trail that goes on
abbrev Later : ℕ → Step → Type 0
Later level s = (s.level ≡ level) × (s.reason ≢ None)

pub goes_none : (level : ℕ) (a : List Step) → GoesOn level a a
goes_none level a = ([], sym (append-nil a), λ k d l. absurd (omega arith))

pub goes_one : (level id : ℕ) (l : Lit) (a : List Step) → GoesOn level a (a ++ unit_step l level id ∷ [])
goes_one level id l a = (unit_step l level id ∷ [], refl, one)
  where
    some : Some id ≢ None
    some e = cc

    one : All (Later level) (unit_step l level id ∷ [])
    one = All-push (Later level) [] (unit_step l level id) (λ k d b. absurd (omega arith)) (refl, some)

pub goes_far : (level : ℕ) (a b c : List Step) → GoesOn level a b → GoesOn level b c → GoesOn level a c
goes_far level a b c (x, e, f) (y, g, h) = (x ++ y, g ∙ (ap (λ z. z ++ y) e ∙ append_assoc a x y), All-append (Later level) x y f h)

pub goes_long : (level : ℕ) (a b : List Step) → GoesOn level a b → length a ≤ length b
goes_long level a b (x, e, f) = omega (arith, ap length e, length-append a x)

pub goes_same : (level : ℕ) (a b : List Step) → GoesOn level a b → (p : ℕ) → p < length a → step_at b p ≡ step_at a p
goes_same level a b (x, e, f) p l = ap (λ z. step_at z p) e ∙ get_or_append_left a x no_step p l

-- ---- what isn't touched stays still
pub untouched_before : (level : ℕ) (a b : List Step) (from : ℕ) (c : Clause) → GoesOn level a b → IsUntouched from b c → IsUntouched from a c
untouched_before level a b from c g u p m l h =
    u p m (let n = goes_long level a b g in omega arith) (subst (λ (s : Step). Contains c (negated s.literal)) (sym (goes_same level a b g p l)) h)

pub untouched_later : (from to : ℕ) (steps : List Step) (c : Clause) → from ≤ to → IsUntouched from steps c → IsUntouched to steps c
untouched_later from to steps c m u p n l h = u p (omega arith) l h

pub still_goes : (n level : ℕ) (a b : List Step) (c : Clause) → IsClause n c → GoesOn level a b → IsStill (literals a) c → IsUntouched (length a) b c → IsStill (literals b) c
still_goes n level a b c fit (x, e, f) s u =
    subst (λ (z : List Step). IsStill (literals z) c) (sym e) (subst (λ (P : Partial). IsStill P c) (sym (literals_on a x)) (still_stays (literals a) (literals x) c fit.distinct s free))
  where
    free : (k : Lit) → Contains c k → ¬ Contains (literals x) (negated k)
    free k h d = from (map_from (λ (t : Step). t.literal) x (negated k) d)
      where
        at : (t : Step) → t.literal ≡ negated k → (p : ℕ) × (p < length x) × (get_or x p no_step ≡ t) → ⊥
        at t i (p, l, j) =
            let q : step_at b (length a + p) ≡ t = ap (λ z. step_at z (length a + p)) e ∙ (get_or-append-add a x p no_step ∙ j) in
            let m : negated (step_at b (length a + p)).literal ≡ k = ap (λ (y : Step). negated y.literal) q ∙ (ap negated i ∙ negated_twice k) in
            u (length a + p) (omega arith) (omega (arith, ap length e, length-append a x)) (subst (Contains c) (sym m) h)

        from : (t : Step) × Contains x t × (t.literal ≡ negated k) → ⊥
        from (t, g, i) = at t i (contains_at x t no_step g)

-- ---- all clauses below a number
pub fits_any : (n : ℕ) (clauses : List Clause) → All (IsClause n) clauses → (c : ℕ) → IsClause n (clause_no clauses c)
fits_any n clauses fit c = by_place (cases_lt c (length clauses))
  where
    empty : IsClause n []
    empty = record { in_range = λ k d l. absurd (omega arith); distinct = λ i j d b l. absurd (omega arith) }

    by_place : (c < length clauses) ⊎ (length clauses ≤ c) → IsClause n (clause_no clauses c)
    by_place (inl l) = fit c [] l
    by_place (inr l) = subst (IsClause n) (sym (get_or_past clauses c [] l)) empty

-- the clauses of one table are those of the other
abbrev pub Same : Table → Table → Type 0
Same table next = next ≡ record table { steps = next.steps }

pub clauses_same : (table next : Table) → Same table next → next.clauses ≡ table.clauses
clauses_same table next e = ap (λ (t : Table). t.clauses) e

pub settled_goes : (table next : Table) (level seen looked : ℕ) → Same table next → All (IsClause table.variables) table.clauses → looked ≤ length table.steps → GoesOn level table.steps next.steps → IsSettled seen looked table → IsSettled seen looked next
settled_goes table next level seen looked same fit k g S c b u =
    let cs = clauses_same table next same in
    let u' : IsUntouched looked next.steps (clause_no table.clauses c) = subst (λ (ds : List Clause). IsUntouched looked next.steps (clause_no ds c)) cs u in
    subst (λ (ds : List Clause). IsStill (literals next.steps) (clause_no ds c)) (sym cs)
    (still_goes table.variables level table.steps next.steps (clause_no table.clauses c) (fits_any table.variables table.clauses fit c) g (S c b (untouched_before level table.steps next.steps looked (clause_no table.clauses c) g u'))
    (untouched_later looked (length table.steps) next.steps (clause_no table.clauses c) k u'))

-- one more clause was looked at
pub seen_more : (table next : Table) (level seen looked : ℕ) → Same table next → All (IsClause table.variables) table.clauses → looked ≤ length table.steps → GoesOn level table.steps next.steps
    → IsSettled seen looked table → IsStill (literals next.steps) (clause_no next.clauses seen) → IsSettled (seen + 1) looked next
seen_more table next level seen looked same fit k g S s c b u = by_number (cases_lt c seen)
  where
    by_number : (c < seen) ⊎ (seen ≤ c) → IsStill (literals next.steps) (clause_no next.clauses c)
    by_number (inl m) = settled_goes table next level seen looked same fit k g S c m u
    by_number (inr m) = let e : seen ≡ c = omega arith in subst (λ d. IsStill (literals next.steps) (clause_no next.clauses d)) e s

-- one more of the clauses in a list
pub users_more : (first now next : Table) (level k c : ℕ) (list : List ℕ) → Same first now → Same now next → All (IsClause first.variables) first.clauses → k < length list → c ≡ get_or list k 0
    → GoesOn level first.steps now.steps → GoesOn level now.steps next.steps
    → ((d : ℕ) → Contains (take k list) d → IsUntouched (length first.steps) now.steps (clause_no first.clauses d) → IsStill (literals now.steps) (clause_no first.clauses d))
    → IsStill (literals next.steps) (clause_no next.clauses c)
    → (d : ℕ) → Contains (take (k + 1) list) d → IsUntouched (length first.steps) next.steps (clause_no first.clauses d) → IsStill (literals next.steps) (clause_no first.clauses d)
users_more first now next level k c list same then fit l e g h inv s d m u = by_member (Contains-push_cases (take k list) (get_or list k 0) d (subst (λ (xs : List ℕ). Contains xs d) (take_more list k 0 l) m))
  where
    by_member : Contains (take k list) d ⊎ (get_or list k 0 ≡ d) → IsStill (literals next.steps) (clause_no first.clauses d)
    by_member (inl i) =
        still_goes first.variables level now.steps next.steps (clause_no first.clauses d) (fits_any first.variables first.clauses fit d) h
        (inv d i (untouched_before level now.steps next.steps (length first.steps) (clause_no first.clauses d) h u))
        (untouched_later (length first.steps) (length now.steps) next.steps (clause_no first.clauses d) (goes_long level first.steps now.steps g) u)
    by_member (inr i) =
        subst (λ x. IsStill (literals next.steps) (clause_no first.clauses x)) (e ∙ i)
        (subst (λ (ds : List Clause). IsStill (literals next.steps) (clause_no ds c)) (clauses_same now next then ∙ clauses_same first now same) s)

-- all clauses that have the negation of one more step's literal
pub along_more : (table next : Table) (level looked : ℕ) → Same table next → All (IsClause table.variables) table.clauses → looked < length table.steps → GoesOn level table.steps next.steps → IsSettled (length table.clauses) looked table
    → ((c : ℕ) → Contains (clause_no next.clauses c) (negated (step_at table.steps looked).literal) → IsUntouched (length table.steps) next.steps (clause_no next.clauses c) → IsStill (literals next.steps) (clause_no next.clauses c))
    → IsSettled (length next.clauses) (looked + 1) next
along_more table next level looked same fit k g S users c b u = by_member (cases_lt 0 (times (slot (negated s)) (slots (clause_no next.clauses c))))
  where
    s : Lit
    s = (step_at table.steps looked).literal

    low : c < length table.clauses
    low = let n = ap length (clauses_same table next same) in omega arith

    rest : ¬ Contains (clause_no next.clauses c) (negated s) → IsUntouched looked next.steps (clause_no next.clauses c)
    rest n p m l h = by_place (cases_lt looked p)
      where
        by_place : (looked < p) ⊎ (p ≤ looked) → ⊥
        by_place (inl i) = u p (omega arith) l h
        by_place (inr i) =
            let e : p ≡ looked = omega arith in
            n (subst (λ (x : Step). Contains (clause_no next.clauses c) (negated x.literal)) (ap (step_at next.steps) e ∙ goes_same level table.steps next.steps g looked k) h)

    by_member : (0 < times (slot (negated s)) (slots (clause_no next.clauses c))) ⊎ (times (slot (negated s)) (slots (clause_no next.clauses c)) ≤ 0) → IsStill (literals next.steps) (clause_no next.clauses c)
    by_member (inl h) = users c (slot_member (clause_no next.clauses c) (negated s) h) (untouched_later (looked + 1) (length table.steps) next.steps (clause_no next.clauses c) (omega arith) u)
    by_member (inr h) =
        settled_goes table next level (length table.clauses) looked same fit (omega arith) g S c low
        (rest (λ m. let t = member_slot (clause_no next.clauses c) (negated s) m in absurd (omega arith)))

-- with nothing pending all clauses are still
pub settled_rest : (table : Table) (looked : ℕ) → length table.steps ≤ looked → IsSettled (length table.clauses) looked table → IsAtRest (literals table.steps) table.clauses
settled_rest table looked m S k d l =
    subst (IsStill (literals table.steps)) (get_or_default table.clauses k [] d l) (S k l (λ p n b h. absurd (omega arith)))

-- and at rest nothing is pending
pub rest_settled : (table : Table) (seen looked : ℕ) → seen ≤ length table.clauses → IsAtRest (literals table.steps) table.clauses → IsSettled seen looked table
rest_settled table seen looked m R c b u = R c [] (omega arith)

-- all clauses of a literal's list
pub users_done : (first now : Table) (k : ℕ) (l : Lit) → Same first now → IsIndexed first.clauses first.uses → length (uses_at first.uses (slot l)) ≤ k
    → ((d : ℕ) → Contains (take k (uses_at first.uses (slot l))) d → IsUntouched (length first.steps) now.steps (clause_no first.clauses d) → IsStill (literals now.steps) (clause_no first.clauses d))
    → (d : ℕ) → Contains (clause_no now.clauses d) l → IsUntouched (length first.steps) now.steps (clause_no now.clauses d) → IsStill (literals now.steps) (clause_no now.clauses d)
users_done first now k l same I m inv d h u =
    let cs = clauses_same first now same in
    let h' : Contains (clause_no first.clauses d) l = subst (λ (ds : List Clause). Contains (clause_no ds d) l) cs h in
    let u' : IsUntouched (length first.steps) now.steps (clause_no first.clauses d) = subst (λ (ds : List Clause). IsUntouched (length first.steps) now.steps (clause_no ds d)) cs u in
    let all : take k (uses_at first.uses (slot l)) ≡ uses_at first.uses (slot l) = take_all k (uses_at first.uses (slot l)) m in
    subst (λ (ds : List Clause). IsStill (literals now.steps) (clause_no ds d)) (sym cs)
    (inv d (subst (λ (xs : List ℕ). Contains xs d) (sym all) (user_from first.clauses first.uses I l d h')) u')

pub same_far : (first now next : Table) → Same first now → Same now next → Same first next
same_far first now next e f = f ∙ ap (λ (t : Table). record t { steps = next.steps }) e

pub same_back : (first now next : Table) (s : Step) → Same first now → now ≡ record next { steps = next.steps ++ s ∷ [] } → Same first next
same_back first now next s e f = sym (ap (λ (t : Table). record t { steps = next.steps }) f) ∙ ap (λ (t : Table). record t { steps = next.steps }) e
