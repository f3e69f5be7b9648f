-- What keeps a state one: unit steps, a decision, going back, and one more clause.
use Rattle.std.proofs.Common.{◌≡◌, ◌≢◌, ℕ, ◌+◌, ◌<◌, ◌≤◌, ◌^◌, Option, Some, None, List, [], ◌∷◌, ◌++◌, length, take, Contains, refl, sym, ap, ◌∙◌, subst, arith}
use Rattle.std.specs.Prelude.{All, filter, nat_le, slice_get, IsNone, IfSome, MatchOption}
use Rattle.std.proofs.lemmas.List.{length_push, get_or_push, take_more}
use Rattle.std.proofs.lemmas.List.Elements.{All-push, All-filter}
use Rattle.std.proofs.lemmas.Option.{get_or_from_slice_get, slice_get_within}
use Rattle.log_law.specs.declared.Lit.{Lit}
use Rattle.log_law.specs.declared.Step.{Step}
use Rattle.log_law.specs.Clauses.{Clause, negated, IsVariable, IsClause}
use Rattle.log_law.specs.Units.{Partial, IsUnassigned, IsStill, IsAtRest}
use Rattle.log_law.specs.Trails.{no_step, step_at, literals}
use Rattle.log_law.specs.SearchLaws.{IsFresh}
use Rattle.log_law.proofs.Lists.{contains_one}
use Rattle.log_law.proofs.Values.{negated_swap}
use Rattle.log_law.proofs.Search.{trail_decision, trail_back}
use Rattle.log_law.proofs.Proved.{learnt_clauses_keep_trails}
use Rattle.sat_state.specs.Searches.{Search, IsSearch, GoesOn}
use Rattle.sat_state.specs.Tables.{Table, search_of, clause_no, IsUntouched, IsSettled, IsLevelled, IsState}
use Rattle.sat_state.proofs.Counting.{still_stays}
use Rattle.sat_state.proofs.Indexing.{clause_no_left}
use Rattle.sat_state.proofs.Levels.{levelled_goes, levelled_decision, decisions_few, kept_all}
use Rattle.sat_state.proofs.Settling.{Same, fits_any, rest_settled}
use Rattle.sat_state.proofs.Stepping.{literals_push, room_left}

pub match_from : {A : Type 0} (o : Option A) (P : Type 0) (Q : A → Type 0) → (IsNone o → P) → IfSome o Q → MatchOption o P Q
match_from None P Q p q = p refl
match_from (Some x) P Q p q = q

-- ---- unit steps
pub state_goes : (table next : Table) (level looked seen looked' seen' : ℕ) → IsState table level looked seen → Same table next → GoesOn level table.steps next.steps → IsSearch (search_of next level)
    → looked' ≤ length next.steps → seen' ≤ length next.clauses → IsSettled seen' looked' next → IsState next level looked' seen'
state_goes table next level looked seen looked' seen' S same g search l s settled = record {
  small = subst (λ n. n < 2 ^ 32) (sym (ap (λ (t : Table). t.variables) same)) S.small;
  search = search;
  levelled = levelled_goes level table.steps next.steps S.levelled g;
  looked_within = l;
  seen_within = s;
  settled = settled;
}

pub settled_to : (table : Table) (seen to looked : ℕ) → to ≤ seen → IsSettled seen looked table → IsSettled to looked table
settled_to table seen to looked m S c b u = S c (omega arith) u

-- ---- a decision
abbrev pub decision : Lit → ℕ → Step
decision l level = record { literal = l; level = level; reason = None }

pub level_small : (table : Table) (level looked seen : ℕ) (l : Lit) → IsState table level looked seen → IsVariable table.variables l.var → IsUnassigned (literals table.steps) l → level + 1 < 2 ^ 32
level_small table level looked seen l S v free =
    let s = S.search in
    let t = s.trail in
    let r = room_left table.variables table.steps (decision l level) t.distinct s.in_range v free in
    let d = decisions_few table.steps in
    let e = S.levelled.last in
    let b = S.small in
    omega arith

pub state_decides : (table : Table) (level looked seen : ℕ) (l : Lit) → IsState table level looked seen → IsAtRest (literals table.steps) table.clauses → IsVariable table.variables l.var → IsUnassigned (literals table.steps) l
    → IsState (record table { steps = table.steps ++ decision l (level + 1) ∷ [] }) (level + 1) looked seen
state_decides table level looked seen l S rest v free = record {
  small = S.small;
  search = record {
    clauses_fit = S.search.clauses_fit;
    few = S.search.few;
    in_range = All-push (λ (s : Step). IsVariable table.variables s.literal.var) table.steps (decision l (level + 1)) S.search.in_range v;
    trail = trail_decision table.clauses table.steps level S.search.trail l free rest;
  };
  levelled = levelled_decision table.steps (decision l (level + 1)) level S.levelled refl refl;
  looked_within = let b = S.looked_within in omega (arith, length_push table.steps (decision l (level + 1)));
  seen_within = S.seen_within;
  settled = λ c b u. still c b u;
}
  where
    next : List Step
    next = table.steps ++ decision l (level + 1) ∷ []

    still : (c : ℕ) → c < seen → IsUntouched looked next (clause_no table.clauses c) → IsStill (literals next) (clause_no table.clauses c)
    still c b u =
        let fit = fits_any table.variables table.clauses S.search.clauses_fit c in
        let n = S.seen_within in
        subst (λ (P : Partial). IsStill P (clause_no table.clauses c)) (sym (literals_push table.steps (decision l (level + 1))))
        (still_stays (literals table.steps) (l ∷ []) (clause_no table.clauses c) fit.distinct (rest c [] (omega arith)) (λ k h d. u (length table.steps) S.looked_within (omega (arith, length_push table.steps (decision l (level + 1)))) (here k h (contains_one (negated k) l d))))
      where
        here : (k : Lit) → Contains (clause_no table.clauses c) k → negated k ≡ l → Contains (clause_no table.clauses c) (negated (step_at next (length table.steps)).literal)
        here k h e =
            let s : (step_at next (length table.steps)).literal ≡ l = ap (λ (x : Step). x.literal) (get_or_push table.steps (decision l (level + 1)) no_step (length table.steps) refl) in
            subst (Contains (clause_no table.clauses c)) (negated_swap k l e ∙ ap negated (sym s)) h

-- ---- back to a level
pub state_back : (table next : Table) (level lower looked seen looked' seen' : ℕ) → IsState table level looked seen → lower < level → next ≡ record table { steps = filter (λ (s : Step). nat_le s.level lower) table.steps }
    → IsLevelled next.steps lower → looked' ≡ length next.steps → seen' ≡ length next.clauses → IsState next lower looked' seen'
state_back table next level lower looked seen looked' seen' S b e L l s = record {
  small = subst (λ n. n < 2 ^ 32) (sym (ap (λ (t : Table). t.variables) e)) S.small;
  search = subst (λ (t : Table). IsSearch (search_of t lower)) (sym e) (record {
    clauses_fit = S.search.clauses_fit;
    few = S.search.few;
    in_range = All-filter (λ (x : Step). nat_le x.level lower) (λ (x : Step). IsVariable table.variables x.literal.var) table.steps S.search.in_range;
    trail = trail_back table.clauses table.steps level S.search.trail lower (omega arith);
  });
  levelled = L;
  looked_within = omega arith;
  seen_within = omega arith;
  settled = rest_settled next seen' looked' (omega arith) (subst (λ (t : Table). IsAtRest (literals t.steps) t.clauses) (sym e) (S.search.trail.rested lower b));
}

-- where the level is the present one nothing is dropped
pub back_here : (table : Table) (level lower : ℕ) → level ≡ lower → IsLevelled table.steps level → search_of table level ≡ record (search_of table level) { trail = filter (λ (s : Step). nat_le s.level lower) table.steps; level = lower }
back_here table level lower e L = λ i. record { variables = table.variables; clauses = table.clauses; trail = kept i; level = e i }
  where
    kept : table.steps ≡ filter (λ (s : Step). nat_le s.level lower) table.steps
    kept = sym (kept_all table.steps lower (subst (IsLevelled table.steps) e L))

-- ---- one more clause
pub state_holds : (table next : Table) (level looked seen : ℕ) (clause : Clause) → IsState table level looked seen → next ≡ record table { clauses = table.clauses ++ clause ∷ []; uses = next.uses }
    → IsClause table.variables clause → length table.clauses < 4_000_000_000
    → (0 < level → (k : Lit) × (l : Lit) × Contains clause k × Contains clause l × (k ≢ l) × IsFresh table.steps level k × IsFresh table.steps level l) → IsState next level looked seen
state_holds table next level looked seen clause S e fit few second = subst (λ (t : Table). IsState t level looked seen) (sym e) (record {
  small = S.small;
  search = record {
    clauses_fit = All-push (IsClause table.variables) table.clauses clause S.search.clauses_fit fit;
    few = omega (arith, length_push table.clauses clause);
    in_range = S.search.in_range;
    trail = learnt_clauses_keep_trails table.clauses table.steps level clause S.search.trail second;
  };
  levelled = S.levelled;
  looked_within = S.looked_within;
  seen_within = let b = S.seen_within in omega (arith, length_push table.clauses clause);
  settled = λ c b u.
      let n = S.seen_within in
      let same = clause_no_left table.clauses clause c (omega arith) in
      subst (IsStill (literals table.steps)) (sym same) (S.settled c b (subst (IsUntouched looked table.steps) same u));
})

-- ---- the clauses of a formula, one by one
pub fits_formula : (n m : ℕ) (clauses : List Clause) (i : ℕ) (x c : Clause) → All (IsClause n) clauses → slice_get clauses i ≡ Some x → c ≡ x → m ≡ n → IsClause m c
fits_formula n m clauses i x c fit s e f =
    subst (λ k. IsClause k c) (sym f) (subst (IsClause n) (get_or_from_slice_get clauses i x [] s ∙ sym e) (fit i [] (slice_get_within clauses i x s)))

pub taken_more : (clauses : List Clause) (i : ℕ) (x c : Clause) → slice_get clauses i ≡ Some x → c ≡ x → take i clauses ++ c ∷ [] ≡ take (i + 1) clauses
taken_more clauses i x c s e =
    ap (λ (d : Clause). take i clauses ++ d ∷ []) (e ∙ sym (get_or_from_slice_get clauses i x [] s)) ∙ sym (take_more clauses i [] (slice_get_within clauses i x s))

abbrev pub fresh_search : ℕ → List Clause → Search
fresh_search variables clauses = record { variables = variables; clauses = clauses; trail = []; level = 0 }
