-- A table with one more step, one less, and one more clause.
use Rattle.std.proofs.Common.{◌≡◌, ◌⊎◌, inl, inr, ℕ, ◌+◌, ◌*◌, ◌<◌, ◌≤◌, ◌^◌, List, [], ◌∷◌, ◌++◌, length, get_or, Contains, sym, ap, ◌∙◌, subst, arith}
use Rattle.std.specs.Prelude.{All}
use Rattle.std.proofs.lemmas.Bool.{cases_lt}
use Rattle.std.proofs.lemmas.List.{get_or_read, get_or_past, length_push}
use Rattle.std.proofs.lemmas.List.Elements.{All-push, All-weaker}
use Rattle.log_law.specs.declared.Lit.{Lit}
use Rattle.log_law.specs.declared.Step.{Step}
use Rattle.log_law.specs.Clauses.{Clause, negated, IsVariable, IsClause}
use Rattle.log_law.specs.Units.{Partial, remaining, IsUnassigned}
use Rattle.log_law.specs.Trails.{literals}
use Rattle.sat_state.specs.Tables.{slot, slots, times, uses_at, enlisted, clause_no, IsIndexed, IsCounted, IsTable}
use Rattle.sat_state.proofs.Pieces.{times_member}
use Rattle.sat_state.proofs.Indexing.{slot_below, slots_below, indexed_push, enlisted_length, user_within}
use Rattle.sat_state.proofs.Counting.{counted_enough, counted_push, counted_pop, counted_small, counted_hold}
use Rattle.sat_state.proofs.Stepping.{literals_push, clause_short}

-- the list at a literal's slot
pub users_are : (clauses : List Clause) (uses : List (List ℕ)) (m l : Lit) (s : ℕ) (xs : List ℕ) → IsIndexed clauses uses → m ≡ negated l → s ≡ slot m → s < length uses → xs ≡ get_or uses s xs
    → (c : ℕ) → times c xs ≡ times (slot (negated l)) (slots (clause_no clauses c))
users_are clauses uses m l s xs I em es b ex c =
    ap (times c) (get_or_read uses s xs b ex [])
    ∙ (ap (λ y. times c (uses_at uses y)) (es ∙ ap slot em) ∙ I (slot (negated l)) c)

pub slot_in : (n : ℕ) (m l : Lit) (s w : ℕ) → IsVariable n l.var → m ≡ negated l → s ≡ slot m → w ≡ 2 * n + 2 → s < w
slot_in n m l s w v em es ew = let b = slot_below (negated l) n v.1 in let e : s ≡ slot (negated l) = es ∙ ap slot em in omega arith

pub table_push : (n : ℕ) (clauses : List Clause) (steps : List Step) (uses : List (List ℕ)) (left next : List ℕ) (s : Step) (xs : List ℕ) → IsTable n clauses steps uses left → IsUnassigned (literals steps) s.literal
    → ((c : ℕ) → times c xs ≡ times (slot (negated s.literal)) (slots (clause_no clauses c))) → length next ≡ length left → ((c : ℕ) → get_or left c 0 ≡ get_or next c 0 + times c xs) → IsTable n clauses (steps ++ s ∷ []) uses next
table_push n clauses steps uses left next s xs T free same long down = record {
  small = T.small;
  clauses_fit = T.clauses_fit;
  few = T.few;
  wide = T.wide;
  indexed = T.indexed;
  counters = long ∙ T.counters;
  counted = subst (λ (P : Partial). IsCounted P clauses next) (sym (literals_push steps s)) (counted_push (literals steps) s.literal clauses left next xs T.counted free same down);
}

pub table_enough : (n : ℕ) (clauses : List Clause) (steps : List Step) (uses : List (List ℕ)) (left : List ℕ) (s : Step) (xs : List ℕ) → IsTable n clauses steps uses left → IsUnassigned (literals steps) s.literal
    → ((c : ℕ) → times c xs ≡ times (slot (negated s.literal)) (slots (clause_no clauses c))) → (c : ℕ) → times c xs ≤ get_or left c 0
table_enough n clauses steps uses left s xs T free same = counted_enough (literals steps) s.literal clauses left xs T.counted free same

counted_last : (steps : List Step) (s : Step) (clauses : List Clause) (left : List ℕ) → IsCounted (literals (steps ++ s ∷ [])) clauses left → IsCounted (literals steps ++ s.literal ∷ []) clauses left
counted_last steps s clauses left C = subst (λ (P : Partial). IsCounted P clauses left) (literals_push steps s) C

pub table_pop : (n : ℕ) (clauses : List Clause) (steps : List Step) (uses : List (List ℕ)) (left next : List ℕ) (s : Step) (xs : List ℕ) → IsTable n clauses (steps ++ s ∷ []) uses left → IsUnassigned (literals steps) s.literal
    → ((c : ℕ) → times c xs ≡ times (slot (negated s.literal)) (slots (clause_no clauses c))) → length next ≡ length left → ((c : ℕ) → get_or next c 0 ≡ get_or left c 0 + times c xs) → IsTable n clauses steps uses next
table_pop n clauses steps uses left next s xs T free same long up = record {
  small = T.small;
  clauses_fit = T.clauses_fit;
  few = T.few;
  wide = T.wide;
  indexed = T.indexed;
  counters = long ∙ T.counters;
  counted = counted_pop (literals steps) s.literal clauses left next xs (counted_last steps s clauses left T.counted) free same up;
}

pub table_counters_small : (n : ℕ) (clauses : List Clause) (steps : List Step) (uses : List (List ℕ)) (left : List ℕ) (s : Step) (xs : List ℕ) → IsTable n clauses (steps ++ s ∷ []) uses left → IsUnassigned (literals steps) s.literal
    → ((c : ℕ) → times c xs ≡ times (slot (negated s.literal)) (slots (clause_no clauses c))) → (c : ℕ) → get_or left c 0 + times c xs < 2 ^ 32
table_counters_small n clauses steps uses left s xs T free same c =
    let b = counted_small (literals steps) s.literal clauses left xs n (counted_last steps s clauses left T.counted) free same short c in
    let m = T.small in
    omega arith
  where
    short : (d : ℕ) → length (clause_no clauses d) ≤ n
    short d = by_place (cases_lt d (length clauses))
      where
        by_place : (d < length clauses) ⊎ (length clauses ≤ d) → length (clause_no clauses d) ≤ n
        by_place (inl l) = clause_short n (clause_no clauses d) (T.clauses_fit d [] l)
        by_place (inr l) = let e = ap length (get_or_past clauses d [] l) in omega arith

pub table_user_within : (n : ℕ) (clauses : List Clause) (steps : List Step) (uses : List (List ℕ)) (left : List ℕ) (m l : Lit) (s : ℕ) (xs : List ℕ) → IsTable n clauses steps uses left → m ≡ negated l → s ≡ slot m → s < length uses → xs ≡ get_or uses s xs
    → (c : ℕ) → 0 < times c xs → c < length left
table_user_within n clauses steps uses left m l s xs T em es b ex c h =
    let w : c < length clauses = user_within clauses uses T.indexed s c (subst (λ (ys : List ℕ). Contains ys c) (get_or_read uses s xs b ex []) (times_member c xs h)) in
    let e = T.counters in
    omega arith

pub table_slots : (n : ℕ) (clauses : List Clause) (steps : List Step) (uses : List (List ℕ)) (left : List ℕ) (clause : Clause) → IsTable n clauses steps uses left → IsClause n clause → All (λ s. s < length uses) (slots clause)
table_slots n clauses steps uses left clause T fit = All-weaker (λ s. s < 2 * n + 2) (λ s. s < length uses) (λ s b. let e = T.wide in omega arith) (slots clause) (slots_below n clause fit)

pub table_hold : (n : ℕ) (clauses : List Clause) (steps : List Step) (uses : List (List ℕ)) (left : List ℕ) (clause : Clause) (open_count number : ℕ) → IsTable n clauses steps uses left → IsClause n clause → length clauses < 4_000_000_000
    → number ≡ length clauses → open_count ≡ length (remaining (literals steps) clause) → IsTable n (clauses ++ clause ∷ []) steps (enlisted uses (slots clause) number) (left ++ open_count ∷ [])
table_hold n clauses steps uses left clause open_count number T fit few is counted = record {
  small = T.small;
  clauses_fit = All-push (IsClause n) clauses clause T.clauses_fit fit;
  few = omega (arith, length_push clauses clause);
  wide = enlisted_length uses (slots clause) number ∙ T.wide;
  indexed = subst (λ k. IsIndexed (clauses ++ clause ∷ []) (enlisted uses (slots clause) k)) (sym is) (indexed_push clauses clause uses T.indexed (table_slots n clauses steps uses left clause T fit));
  counters = let e = T.counters in omega (arith, length_push clauses clause, length_push left open_count);
  counted = counted_hold (literals steps) clauses clause left open_count T.counted T.counters counted;
}

pub table_as : (n : ℕ) (cs ds : List Clause) (steps : List Step) (us vs : List (List ℕ)) (ls ms : List ℕ) → cs ≡ ds → us ≡ vs → ls ≡ ms → IsTable n ds steps vs ms → IsTable n cs steps us ls
table_as n cs ds steps us vs ls ms e f g T =
    subst (λ (x : List Clause). IsTable n x steps us ls) (sym e) (subst (λ (x : List (List ℕ)). IsTable n ds steps x ls) (sym f) (subst (λ (x : List ℕ). IsTable n ds steps vs x) (sym g) T))
