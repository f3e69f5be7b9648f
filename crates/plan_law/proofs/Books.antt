-- Journals: what fit entries keep and improve, and the bound.
use Rattle.std.proofs.Common.{◌≡◌, ◌⊎◌, inl, inr, ℕ, zero, suc, ◌+◌, ◌-◌, ◌/◌, ◌<◌, ◌≤◌, min, max, Bool, true, false, cond, ◌&&◌, eqb, eqb-true, Option, Some, None, List, [], ◌∷◌, ◌++◌, length, get_or, take, All, Contains, refl, sym, ap, ap₂, ◌∙◌, subst, arith, add-one}
use Rattle.std.specs.Prelude.{sum, sum_by, unwrap_or, slice_get}
use Rattle.std.specs.List.{range_with_len, enumerate_from}
use Rattle.std.specs.Option.{option_or}
use Rattle.std.proofs.lemmas.Bool.Decides.{Decides-and}
use Rattle.std.proofs.lemmas.List.Folds.{find-append}
use Rattle.std.proofs.lemmas.List.Sums.{sum_by-cons}
use Rattle.geo_orient.specs.declared.Point.{Point}
use Rattle.tri_theory.specs.Points.{ArePlaced}
use Rattle.edge_table.specs.declared.edge.Edge.{Edge}
use Rattle.tri_theory.specs.Triangulations.{IsTriangulation}
use Rattle.tri_theory.specs.Rounds.{Within, total}
use Rattle.flip_list_law.specs.declared.Flip.{Flip}
use Rattle.flip_list_law.specs.FlipLists.{in_turn}
use Rattle.assignment_law.specs.Assignments.{IsAssignment, assignment_sum, assignment_bound}
use Rattle.bound_law.specs.Copies.{copy_of, copy_lower}
use Rattle.bound_law.specs.Bounds.{input_at, AreLowerBounds}
use Rattle.plan_law.specs.Images.{flips_in_turn}
use Rattle.plan_law.specs.Plans.{IsInstance, Plan, IsPlanOf, plan_total, followed_all, with_list, swapped}
use Rattle.plan_law.specs.Books.{PairRow, IsTrueRow, row_of, lower_of, Entry, Move, Swap, Row, Pack, is_plan_entry, State, bound, identity, opening_state, plan_after, after_entry, state_after, MayBeOffered, IsFit, IsLegal, state_of, front}
use Rattle.plan_law.specs.PlanLaws.{Swaps}
use Rattle.plan_law.specs.BookLaws.{Justification, Improves, FitEntriesImprove, JournalsGrow, IsState, BooksKeepPlans, JournalsKeepWeights, JournalsImprove, JournalsNeverWorsen, BooksBoundPlans, LowerBoundsAreSymmetric, CrossedRowsAreTrue, EmptyRowsAreTrue, TrueRowsRefuseOneFewer}
use Rattle.tri_theory.proofs.Schedules.{within_back}
use Rattle.bound_law.proofs.Copies.{weights_bound}
use Rattle.crossing_law.proofs.Crossed.{apart_by_crossings}
use Rattle.plan_law.proofs.Images.{find_passes, find_listed}
use Rattle.plan_law.proofs.Plans.{follow_all, followed_weights, swaps_keep_plans}

-- ---- rows
lower_at : {E : Type 0} → Option (PairRow E) → ℕ
lower_at (Some row) = row.lower
lower_at None = 0

module _ (E : Type 0) where
  row_cases : (rows : List (PairRow E)) (i j : ℕ) (row : PairRow E) → row_of rows i j ≡ Some row → Contains rows row × (row.low ≡ i) × (row.high ≡ j)
  row_cases rows i j row e = (find_listed (λ row. eqb row.low i && eqb row.high j) rows row e, eqb-true row.low i p.0, eqb-true row.high j p.1)
    where
      p : (eqb row.low i ≡ true) × (eqb row.high j ≡ true)
      p = (Decides-and (eqb row.low i) (eqb row.high j) (λ k. k, λ k. k) (λ k. k, λ k. k)).0 (find_passes (λ row. eqb row.low i && eqb row.high j) rows row e)

  -- one row more doesn't lower a bound
  lower_more : (rows : List (PairRow E)) (row : PairRow E) (i j : ℕ) → lower_of rows i j ≤ lower_of (rows ++ (row ∷ [])) i j
  lower_more rows row i j = by_found (row_of rows (min i j) (max i j)) refl (find-append (λ row. eqb row.low (min i j) && eqb row.high (max i j)) rows (row ∷ []))
    where
      rest : Option (PairRow E)
      rest = row_of (row ∷ []) (min i j) (max i j)

      by_found : (r : Option (PairRow E)) → row_of rows (min i j) (max i j) ≡ r → row_of (rows ++ (row ∷ [])) (min i j) (max i j) ≡ option_or (row_of rows (min i j) (max i j)) rest → lower_of rows i j ≤ lower_of (rows ++ (row ∷ [])) i j
      by_found (Some old) e f =
          let g : row_of (rows ++ (row ∷ [])) (min i j) (max i j) ≡ Some old = f ∙ ap (λ r. option_or r rest) e in
          let a : lower_of rows i j ≡ old.lower = ap (λ r. elim r as (λ _. ℕ) [ Some row ↦ row.lower | None ↦ 0 ]) e in
          let b : lower_of (rows ++ (row ∷ [])) i j ≡ old.lower = ap (λ r. elim r as (λ _. ℕ) [ Some row ↦ row.lower | None ↦ 0 ]) g in
          omega (arith, a, b)
      by_found None e f =
          let a : lower_of rows i j ≡ 0 = ap (λ r. elim r as (λ _. ℕ) [ Some row ↦ row.lower | None ↦ 0 ]) e in
          omega (arith, a)

sum_more : {X : Type 0} (f g : X → ℕ) (xs : List X) → ((x : X) → f x ≤ g x) → sum_by f xs ≤ sum_by g xs
sum_more f g [] h = omega arith
sum_more f g (x ∷ xs) h = let a = sum_more f g xs h in let b = h x in omega (arith, a, b, sum_by-cons f x xs, sum_by-cons g x xs)

bound_more : (lower upper : ℕ → ℕ → ℕ) (assignment : List ℕ) → ((i j : ℕ) → lower i j ≤ upper i j) → assignment_bound lower assignment ≤ assignment_bound upper assignment
bound_more lower upper assignment h =
    halves (assignment_sum lower assignment) (assignment_sum upper assignment) (sum_more (λ place. lower place.0 place.1) (λ place. upper place.0 place.1) (enumerate_from 0 assignment) (λ place. h place.0 place.1))
  where
    halves : (a b : ℕ) → a ≤ b → (a + 1) / 2 ≤ (b + 1) / 2
    halves a b l = omega arith

-- ---- one entry
same_value : (plan next : Plan) (r : Option Plan) → r ≡ Some next → unwrap_or r plan ≡ next
same_value plan next r e = ap (λ r. unwrap_or r plan) e

-- the plan after an entry has the same weights
kept_weights : (plan : Plan) (r : Option Plan) → ((next : Plan) → r ≡ Some next → next.weights ≡ plan.weights) → (unwrap_or r plan).weights ≡ plan.weights
kept_weights plan None h = refl
kept_weights plan (Some next) h = h next refl

swapped_weights : (points : List Point) (inputs : List (List Edge)) (plan next : Plan) (i : ℕ) (rounds : List (List Edge)) → swapped points inputs plan i rounds ≡ Some next → next.weights ≡ plan.weights
swapped_weights points inputs plan next i rounds e = by_flips (flips_in_turn points (input_at inputs i) (in_turn rounds)) e
  where
    by_flips : (r : Option (List Flip)) → elim r [ Some flips ↦ Some (with_list plan i flips) | None ↦ None ] ≡ Some next → next.weights ≡ plan.weights
    by_flips None h = absurd (cc)
    by_flips (Some flips) h = let same : with_list plan i flips ≡ next = cc in ap (λ (p : Plan). p.weights) (sym same)

entry_weights : (E : Type 0) (points : List Point) (inputs : List (List Edge)) (plan : Plan) (entry : Entry E) → (unwrap_or (plan_after points inputs plan entry) plan).weights ≡ plan.weights
entry_weights E points inputs plan (Move turn edges) = kept_weights plan (followed_all points plan edges) (λ next e. followed_weights points edges plan next e)
entry_weights E points inputs plan (Swap turn input rounds) = kept_weights plan (swapped points inputs plan input rounds) (λ next e. swapped_weights points inputs plan next input rounds e)
entry_weights E points inputs plan (Row turn row) = refl
entry_weights E points inputs plan (Pack turn assignment) = refl

module _ (E : Type 0) where
  -- another plan of the same weights has the same bound
  same_bound : (state : State E) (weights : List ℕ) → weights ≡ state.plan.weights → bound state ≤ assignment_bound (copy_lower weights (lower_of state.rows)) state.assignment
  same_bound state weights e = subst (λ ws. bound state ≤ assignment_bound (copy_lower ws (lower_of state.rows)) state.assignment) (sym e) (omega arith)

  improves : (points : List Point) (inputs : List (List Edge)) (state : State E) (entry : Entry E) → IsFit points inputs state entry → Improves state entry (after_entry points inputs state entry)
  improves points inputs state (Move turn edges) (next, e, l) =
      let i : plan_total (unwrap_or (followed_all points state.plan edges) state.plan) ≡ plan_total next = ap plan_total (same_value state.plan next (followed_all points state.plan edges) e) in
      record { total_falls = λ _. omega (arith, i, l); total_kept = omega (arith, i, l); bound_kept = same_bound state _ (entry_weights E points inputs state.plan (Move turn edges)) }
  improves points inputs state (Swap turn input rounds) (R, (next, e, l)) =
      let i : plan_total (unwrap_or (swapped points inputs state.plan input rounds) state.plan) ≡ plan_total next = ap plan_total (same_value state.plan next (swapped points inputs state.plan input rounds) e) in
      record { total_falls = λ _. omega (arith, i, l); total_kept = omega (arith, i, l); bound_kept = same_bound state _ (entry_weights E points inputs state.plan (Swap turn input rounds)) }
  improves points inputs state (Row turn row) h =
      record { total_falls = λ e. absurd (cc); total_kept = omega arith; bound_kept = bound_more (copy_lower state.plan.weights (lower_of state.rows)) (copy_lower state.plan.weights (lower_of (state.rows ++ (row ∷ [])))) state.assignment (λ c d. lower_more E state.rows row (copy_of state.plan.weights c) (copy_of state.plan.weights d)) }
  improves points inputs state (Pack turn assignment) h = record { total_falls = λ e. absurd (cc); total_kept = omega arith; bound_kept = omega (arith, h) }

pub fit_entries_improve : (E : Type 0) → FitEntriesImprove E
fit_entries_improve E points inputs state entry h = improves E points inputs state entry h

-- ---- the identity
length-range : (a n : ℕ) → length (range_with_len a n) ≡ n
length-range a zero = refl
length-range a (suc n) = ap suc (length-range (a + 1) n)

range_at : (a n k d : ℕ) → k < n → get_or (range_with_len a n) k d ≡ a + k
range_at a zero k d l = absurd (omega arith)
range_at a (suc n) zero d l = omega arith
range_at a (suc n) (suc k) d l = let e = range_at (a + 1) n k d (omega arith) in omega (arith, e)

identity_assigns : (n : ℕ) → IsAssignment n (identity n)
identity_assigns n = record {
  long = length-range 0 n;
  below = λ k d l. let e = range_at 0 n k d (omega (arith, l, length-range 0 n)) in omega (arith, e, l, length-range 0 n);
  distinct = λ i j d h l. let e = range_at 0 n i d (omega (arith, h, l, length-range 0 n)) in let f = range_at 0 n j d (omega (arith, l, length-range 0 n)) in λ same. omega (arith, e, f, h, same);
}

-- ---- lists
pub all_more : {X : Type 0} (Q : X → Type 0) (xs : List X) (x : X) → All Q xs → Q x → All Q (xs ++ (x ∷ []))
all_more Q [] x h q = one
  where
    one : All Q (x ∷ [])
    one zero d l = q
    one (suc k) d l = absurd (omega arith)
all_more {X} Q (y ∷ ys) x h q = more (all_more Q ys x (λ k d l. h (suc k) d (omega arith)) q)
  where
    more : All Q (ys ++ (x ∷ [])) → All Q (y ∷ (ys ++ (x ∷ [])))
    more r zero d l = h zero d (omega arith)
    more r (suc k) d l = r k d (omega arith)

-- ---- journals
module _ (E : Type 0) (justified : PairRow E → Type 0) (points : List Point) (inputs : List (List Edge)) where
  pub state_append : (start : State E) (earlier later : List (Entry E)) → state_after points inputs start (earlier ++ later) ≡ state_after points inputs (state_after points inputs start earlier) later
  state_append start [] later = refl
  state_append start (entry ∷ earlier) later = state_append (after_entry points inputs start entry) earlier later

  pub legal_join : (start : State E) (earlier later : List (Entry E)) → IsLegal justified points inputs start earlier → IsLegal justified points inputs (state_after points inputs start earlier) later → IsLegal justified points inputs start (earlier ++ later)
  legal_join start [] later h k = k
  legal_join start (entry ∷ earlier) later (m, f, h) k = (m, f, legal_join (after_entry points inputs start entry) earlier later h k)

  pub legal_split : (start : State E) (earlier later : List (Entry E)) → IsLegal justified points inputs start (earlier ++ later) → IsLegal justified points inputs start earlier × IsLegal justified points inputs (state_after points inputs start earlier) later
  legal_split start [] later h = (tt, h)
  legal_split start (entry ∷ earlier) later (m, f, h) = let r = legal_split (after_entry points inputs start entry) earlier later h in ((m, f, r.0), r.1)

  -- each entry improves
  at_place : (start : State E) (journal : List (Entry E)) (k : ℕ) (entry : Entry E) → IsLegal justified points inputs start journal → slice_get journal k ≡ Some entry
      → Improves (state_after points inputs start (take k journal)) entry (state_after points inputs start (take (suc k) journal))
  at_place start [] k entry h e = absurd (cc)
  at_place start (first ∷ journal) zero entry (m, f, h) e = let i : first ≡ entry = cc in subst (λ x. Improves start x (after_entry points inputs start first)) i (improves E points inputs start first f)
  at_place start (first ∷ journal) (suc k) entry (m, f, h) e = at_place (after_entry points inputs start first) journal k entry h e

  worsens_never : (start : State E) (journal : List (Entry E)) → IsLegal justified points inputs start journal
      → (plan_total (state_after points inputs start journal).plan + front journal ≤ plan_total start.plan) × (bound start ≤ bound (state_after points inputs start journal))
  worsens_never start [] h = (omega arith, omega arith)
  worsens_never start (entry ∷ journal) (m, f, h) =
      by_kind (is_plan_entry entry) refl (improves E points inputs start entry f) (worsens_never (after_entry points inputs start entry) journal h)
    where
      next : State E
      next = after_entry points inputs start entry

      end : State E
      end = state_after points inputs next journal

      by_kind : (v : Bool) → is_plan_entry entry ≡ v → Improves start entry next → (plan_total end.plan + front journal ≤ plan_total next.plan) × (bound next ≤ bound end) → (plan_total end.plan + front (entry ∷ journal) ≤ plan_total start.plan) × (bound start ≤ bound end)
      by_kind true e I r = (let a = I.total_falls e in let n = counted e in omega (arith, a, n, r.0), let b = I.bound_kept in omega (arith, b, r.1))
        where
          counted : is_plan_entry entry ≡ true → front (entry ∷ journal) ≡ 1 + front journal
          counted e = sum_by-cons (λ x. cond (is_plan_entry x) 1 0) entry journal ∙ ap (λ v. cond v 1 0 + front journal) e
      by_kind false e I r = (let a = I.total_kept in let n = counted e in omega (arith, a, n, r.0), let b = I.bound_kept in omega (arith, b, r.1))
        where
          counted : is_plan_entry entry ≡ false → front (entry ∷ journal) ≡ 0 + front journal
          counted e = sum_by-cons (λ x. cond (is_plan_entry x) 1 0) entry journal ∙ ap (λ v. cond v 1 0 + front journal) e

  -- ---- what a state keeps
  abbrev IsRowThere : PairRow E → Type 0
  IsRowThere row = (row.low < row.high) × (row.high < length inputs) × justified row

  pub state_weights : (journal : List (Entry E)) (start : State E) → (state_after points inputs start journal).plan.weights ≡ start.plan.weights
  state_weights [] start = refl
  state_weights (entry ∷ journal) start = state_weights journal (after_entry points inputs start entry) ∙ entry_weights E points inputs start.plan entry

  pub legal_more : (start : State E) (journal : List (Entry E)) (entry : Entry E) → IsLegal justified points inputs start journal → MayBeOffered justified (length inputs) (sum start.plan.weights) entry → IsFit points inputs (state_after points inputs start journal) entry
      → IsLegal justified points inputs start (journal ++ (entry ∷ []))
  legal_more start journal entry h m f =
      legal_join start journal (entry ∷ []) h (subst (λ ws. MayBeOffered justified (length inputs) (sum ws) entry) (sym (state_weights journal start)) m, f, tt)

  -- as many copies, after an entry that leaves the assignment
  same_copies : (state : State E) (entry : Entry E) → IsState justified points inputs state → IsAssignment (sum (unwrap_or (plan_after points inputs state.plan entry) state.plan).weights) state.assignment
  same_copies state entry K = subst (λ ws. IsAssignment (sum ws) state.assignment) (sym (entry_weights E points inputs state.plan entry)) K.is_assignment

  module _ (N : IsInstance points inputs) where
    pub entry_keeps : (state : State E) (entry : Entry E) → IsState justified points inputs state → MayBeOffered justified (length inputs) (sum state.plan.weights) entry → IsFit points inputs state entry → IsState justified points inputs (after_entry points inputs state entry)
    entry_keeps state (Move turn edges) K m (next, e, l) = record {
      is_plan = subst (IsPlanOf points inputs) (sym (same_value state.plan next (followed_all points state.plan edges) e)) (follow_all points inputs N edges state.plan next K.is_plan e).0;
      is_assignment = same_copies state (Move turn edges) K;
      are_justified = K.are_justified;
    }
    entry_keeps state (Swap turn input rounds) K m (R, (next, e, l)) = record {
      is_plan = subst (IsPlanOf points inputs) (sym (same_value state.plan W.next (swapped points inputs state.plan input rounds) W.is_swapped)) W.is_plan;
      is_assignment = same_copies state (Swap turn input rounds) K;
      are_justified = K.are_justified;
    }
      where
        W : Swaps points inputs state.plan input rounds
        W = swaps_keep_plans points inputs state.plan input rounds N K.is_plan m R
    entry_keeps state (Row turn row) K m h = record { is_plan = K.is_plan; is_assignment = K.is_assignment; are_justified = all_more IsRowThere state.rows row K.are_justified m }
    entry_keeps state (Pack turn assignment) K m h = record { is_plan = K.is_plan; is_assignment = m; are_justified = K.are_justified }

    pub journal_keeps : (journal : List (Entry E)) (start : State E) → IsState justified points inputs start → IsLegal justified points inputs start journal → IsState justified points inputs (state_after points inputs start journal)
    journal_keeps [] start K h = K
    journal_keeps (entry ∷ journal) start K (m, f, h) = journal_keeps journal (after_entry points inputs start entry) (entry_keeps start entry K m f) h

  pub opening_keeps : (plan : Plan) → IsPlanOf points inputs plan → IsState justified points inputs (opening_state plan)
  opening_keeps plan h = record {
    is_plan = h;
    is_assignment = identity_assigns (sum plan.weights);
    are_justified = λ k d l. absurd (omega arith);
  }

  -- true rows are lower bounds
  rows_bound : ArePlaced points → All (λ edges. IsTriangulation points edges) inputs → (rows : List (PairRow E)) → ((row : PairRow E) → Contains rows row → IsTrueRow points inputs row) → AreLowerBounds points inputs (lower_of rows)
  rows_bound P T rows true_rows i j k hi hj l w = by_found (row_of rows (min i j) (max i j)) refl l
    where
      by_found : (r : Option (PairRow E)) → row_of rows (min i j) (max i j) ≡ r → k < elim r [ Some row ↦ row.lower | None ↦ 0 ] → ⊥
      by_found None e m = omega arith
      by_found (Some row) e m = by_order (row_cases E rows (min i j) (max i j) row e)
        where
          by_order : Contains rows row × (row.low ≡ min i j) × (row.high ≡ max i j) → ⊥
          by_order (c, a, b) = by_test (ordered i j)
            where
              none : ¬ Within points (input_at inputs row.low) (input_at inputs row.high) k
              none = true_rows row c k m

              ordered : (i j : ℕ) → ((min i j ≡ i) × (max i j ≡ j)) ⊎ ((min i j ≡ j) × (max i j ≡ i))
              ordered i j = by_le (nat_cases i j)
                where
                  nat_cases : (i j : ℕ) → (i ≤ j) ⊎ (j ≤ i)
                  nat_cases i j = grind arith

                  by_le : (i ≤ j) ⊎ (j ≤ i) → ((min i j ≡ i) × (max i j ≡ j)) ⊎ ((min i j ≡ j) × (max i j ≡ i))
                  by_le (inl h) = inl (omega arith, omega arith)
                  by_le (inr h) = inr (omega arith, omega arith)

              by_test : ((min i j ≡ i) × (max i j ≡ j)) ⊎ ((min i j ≡ j) × (max i j ≡ i)) → ⊥
              by_test (inl (p, q)) = none (subst (λ (s : ℕ × ℕ). Within points (input_at inputs s.0) (input_at inputs s.1) k) (ap₂ (λ x y. (x, y)) (sym (a ∙ p)) (sym (b ∙ q))) w)
              by_test (inr (p, q)) = none (subst (λ (s : ℕ × ℕ). Within points (input_at inputs s.0) (input_at inputs s.1) k) (ap₂ (λ x y. (x, y)) (sym (a ∙ p)) (sym (b ∙ q))) (within_back points P (input_at inputs i) (input_at inputs j) k (T i [] hi) w))

contains_in_all : {X : Type 0} (Q : X → Type 0) (xs : List X) (x : X) → All Q xs → Contains xs x → Q x
contains_in_all Q xs x h (k, l, e) = subst Q e (h k x l)

pub journals_grow : (E : Type 0) (justified : Justification E) → JournalsGrow E justified
journals_grow E justified points inputs start journal entry h m f = legal_more E (justified points inputs) points inputs start journal entry h m f

pub books_keep_plans : (E : Type 0) (justified : Justification E) → BooksKeepPlans E justified
books_keep_plans E justified points inputs book N B =
    journal_keeps E (justified points inputs) points inputs N book.journal (opening_state book.opening) (opening_keeps E (justified points inputs) points inputs book.opening B.opens) B.legal

pub journals_keep_weights : (E : Type 0) → JournalsKeepWeights E
journals_keep_weights E points inputs start journal = state_weights E (λ row. Unit {0}) points inputs journal start

pub journals_improve : (E : Type 0) (justified : Justification E) → JournalsImprove E justified
journals_improve E justified points inputs start journal k entry h e =
    subst (λ n. Improves (state_after points inputs start (take k journal)) entry (state_after points inputs start (take n journal))) (sym (add-one k)) (at_place E (justified points inputs) points inputs start journal k entry h e)

pub journals_never_worsen : (E : Type 0) (justified : Justification E) → JournalsNeverWorsen E justified
journals_never_worsen E justified points inputs start earlier later h =
    let J = justified points inputs in
    let r = worsens_never E J points inputs (state_after points inputs start earlier) later (legal_split E J points inputs start earlier later h).1 in
    subst (λ (s : State E). (plan_total s.plan + front later ≤ plan_total (state_after points inputs start earlier).plan) × (bound (state_after points inputs start earlier) ≤ bound s)) (sym (state_append E J points inputs start earlier later)) r

pub books_bound_plans : (E : Type 0) (justified : Justification E) → BooksBoundPlans E justified
books_bound_plans E justified premise points inputs book centre schedules N B p =
    let K = books_keep_plans E justified points inputs book N B in
    let same = journals_keep_weights E points inputs (opening_state book.opening) book.journal in
    subst (λ ws. assignment_bound (copy_lower ws (lower_of (state_of points inputs book).rows)) (state_of points inputs book).assignment ≤ total book.opening.weights schedules) (sym same)
    (weights_bound points book.opening.weights inputs centre schedules (lower_of (state_of points inputs book).rows) (state_of points inputs book).assignment N.placed N.triangulated B.opens.weighed p
    (rows_bound E (justified points inputs) points inputs N.placed N.triangulated (state_of points inputs book).rows
    (λ row c. let q = contains_in_all (λ row. (row.low < row.high) × (row.high < length inputs) × justified points inputs row) (state_of points inputs book).rows row K.are_justified c in premise points inputs row N q.0 q.1 q.2))
    (subst (λ ws. IsAssignment (sum ws) (state_of points inputs book).assignment) same K.is_assignment))

-- ---- lower bounds of two inputs
pub lower_bounds_are_symmetric : (E : Type 0) → LowerBoundsAreSymmetric E
lower_bounds_are_symmetric E rows = record { other_order = λ i j. ap₂ (λ low high. elim (row_of rows low high) as (λ _. ℕ) [ Some row ↦ row.lower | None ↦ 0 ]) (least i j) (greatest i j); itself = λ ordered i. by_found ordered i (row_of rows (min i i) (max i i)) refl }
  where
    least : (i j : ℕ) → min i j ≡ min j i
    least i j = omega arith

    greatest : (i j : ℕ) → max i j ≡ max j i
    greatest i j = omega arith

    by_found : All (λ row. row.low < row.high) rows → (i : ℕ) → (r : Option (PairRow E)) → row_of rows (min i i) (max i i) ≡ r → lower_of rows i i ≡ 0
    by_found ordered i None e = ap (λ r. elim r as (λ _. ℕ) [ Some row ↦ row.lower | None ↦ 0 ]) e
    by_found ordered i (Some row) e = absurd (let p = row_cases E rows (min i i) (max i i) row e in let l = contains_in_all (λ row. row.low < row.high) rows row ordered p.0 in omega (arith, p.1, p.2, l))

-- ---- rows that are true
pub crossed_rows_are_true : (E : Type 0) → CrossedRowsAreTrue E
crossed_rows_are_true E points inputs row e N hi hj (inl (c, l)) k m =
    (apart_by_crossings points N.placed (input_at inputs row.high) (input_at inputs row.low) e k (N.triangulated row.high [] hj) (N.triangulated row.low [] hi) c (omega (arith, l, m))).1
crossed_rows_are_true E points inputs row e N hi hj (inr (c, l)) k m =
    (apart_by_crossings points N.placed (input_at inputs row.low) (input_at inputs row.high) e k (N.triangulated row.low [] hi) (N.triangulated row.high [] hj) c (omega (arith, l, m))).0

pub empty_rows_are_true : (E : Type 0) → EmptyRowsAreTrue E
empty_rows_are_true E points inputs row e k l = absurd (omega (arith, e, l))

pub true_rows_refuse_one_fewer : (E : Type 0) → TrueRowsRefuseOneFewer E
true_rows_refuse_one_fewer E points inputs row = (λ h l. h (row.lower - 1) (omega arith), λ h k l w. h (omega arith) (longer k (row.lower - 1) (omega arith) w))
  where
    longer : (k n : ℕ) → k ≤ n → Within points (input_at inputs row.low) (input_at inputs row.high) k → Within points (input_at inputs row.low) (input_at inputs row.high) n
    longer k n l (rounds, m, s) = (rounds, omega arith, s)
