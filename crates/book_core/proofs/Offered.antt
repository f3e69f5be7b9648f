-- What an offer makes of a book: an accepted entry, a refusal, and the parts of the book after it.
use Rattle.std.proofs.Common.{◌≡◌, ◌∙◌, ℕ, suc, ◌+◌, ◌-◌, ◌<◌, ◌≤◌, Bool, true, false, cond, Some, None, List, [], ◌∷◌, ◌++◌, length, refl, sym, ap, ap₂, subst, arith}
use Rattle.std.specs.Prelude.{unwrap_or, sum}
use Rattle.geo_orient.specs.declared.Point.{Point}
use Rattle.edge_table.specs.declared.edge.Edge.{Edge}
use Rattle.tri_check.specs.Problems.{Problem}
use Rattle.bound_law.specs.Bounds.{input_at}
use Rattle.assignment_law.specs.Assignments.{IsAssignment, assignment_bound}
use Rattle.bound_law.specs.Copies.{copy_lower}
use Rattle.match_bound.specs.Tables.{weight, IsTable}
use Rattle.book_core.specs.CopyTables.{SetsCopies}
use Rattle.plan_law.specs.Plans.{Plan, plan_total, followed_all, swapped}
use Rattle.plan_law.specs.Books as law
use Rattle.plan_law.specs.Books.{State, is_plan_entry, plan_after, rows_after, assignment_after, after_entry, state_of, IsFit, IsBook, bound_of, bound, lower_of, row_of}
use Rattle.plan_law.specs.BookLaws.{IsState}
use Rattle.plan_law.specs.Worlds as worlds
use Rattle.plan_law.specs.Worlds.{IsAccepted, with_entry, lower_table}
use Rattle.plan_law.proofs.Proved.{books_keep_plans}
use Rattle.pair_rows.specs.declared.row.Row as row
use Rattle.book_core.specs.declared.entry.Entry.{Entry}
use Rattle.book_core.specs.declared.entry.Entry.TheVariants.{Move, Swap, Row, Pack}
use Rattle.book_core.specs.declared.refusal.Refusal.{Refusal}
use Rattle.book_core.specs.declared.refusal.Refusal.TheVariants.{Stale, BadMove, BadSwap, NotBetter, Taken, NoRise, OutOfMemory}
use Rattle.book_core.specs.Entries.{Shown, line_of, lines_of, pair_row, IsJustifiedRow}
use Rattle.book_core.specs.PlanSteps.{IsLowered, IsNoMove, IsNoSwap, IsSwappedIn}
use Rattle.book_core.specs.HeldBooks.{HeldBook, book_of, now_of, front_of, IsOffer, with_line, Accepts, Stales, Refuses, IsHeldBook, AreNumbers}
use Rattle.book_core.proofs.Following.{instance_of}
use Rattle.book_core.proofs.Grown.{book_grows, now_grows, weights_now, weights_after, legal_grows, front_grows}
use Rattle.book_core.proofs.Tables.{table_grows, bound_same}

length-lines : (journal : List Entry) → length (lines_of journal) ≡ length journal
length-lines [] = refl
length-lines (entry ∷ journal) = ap suc (length-lines journal)

module _ (b : HeldBook) (plan : Plan) (table : List (List ℕ)) (perm : List ℕ) (H : IsHeldBook b plan table perm) where
  abbrev P : List Point
  P = b.problem.points

  abbrev Q : List (List Edge)
  Q = b.problem.inputs

  abbrev now : State Shown
  now = now_of b

  pub state : IsState (IsJustifiedRow P Q) P Q (now_of b)
  state = books_keep_plans Shown (λ points inputs r. IsJustifiedRow points inputs r) P Q (book_of b) (instance_of P Q H.is_problem) H.is_book

  -- the weights of its plan are those of the instance, and its assignment is one of the copies
  pub weighs : now.plan.weights ≡ b.problem.weights
  weighs = weights_now b H.weighed

  pub assigns : IsAssignment (sum b.problem.weights) perm
  assigns = subst (λ ws. IsAssignment (sum ws) perm) weighs (subst (IsAssignment (sum now.plan.weights)) (sym H.perm_is) state.is_assignment)

  plan_on : (entry : Entry) (next : Plan) → plan_after P Q now.plan (line_of entry) ≡ Some next → (now_of (with_line b entry)).plan ≡ next
  plan_on entry next e = ap (λ (s : State Shown). s.plan) (now_grows b entry) ∙ ap (λ r. unwrap_or r now.plan) e

  pub accepted : (base : ℕ) (entry : Entry) (place saved : ℕ) (next : Plan) → (¬ Stales b base entry) → IsFit P Q now (line_of entry) → place ≡ length b.journal → plan_after P Q now.plan (line_of entry) ≡ Some next
      → plan_total next + saved ≡ plan_total now.plan → Accepts b base entry place saved
  accepted base entry place saved next fresh fit at e s = record {
    fresh = fresh;
    fit = fit;
    at_end = at ∙ sym (length-lines b.journal);
    saves = subst (λ (bk : law.Book Shown). saved ≡ plan_total now.plan - plan_total (state_of P Q bk).plan) (book_grows b entry) (let t = ap plan_total (plan_on entry next e) in omega (arith, t, s));
  }

  pub held_on : (entry : Entry) (next : Plan) (to : List (List ℕ)) (assigned : List ℕ) → IsOffer b.problem entry → IsFit P Q now (line_of entry) → plan_after P Q now.plan (line_of entry) ≡ Some next
      → to ≡ lower_table b.problem.weights (rows_after now.rows (line_of entry)) → assigned ≡ assignment_after now.assignment (line_of entry) → IsHeldBook (with_line b entry) next to assigned
  held_on entry next to assigned m fit e t a = record {
    is_problem = H.is_problem;
    weighed = H.weighed;
    is_book = legal_grows b entry H.weighed H.is_book m fit;
    plan_is = sym (plan_on entry next e);
    table_is = t ∙ ap (λ (s : State Shown). lower_table b.problem.weights s.rows) (sym (now_grows b entry));
    perm_is = a ∙ ap (λ (s : State Shown). s.assignment) (sym (now_grows b entry));
  }

  pub numbers_on : (entry : Entry) (opened front limit front' limit' : ℕ) → AreNumbers b opened front limit → front' ≡ front + cond (is_plan_entry (line_of entry)) 1 0 → limit' ≡ bound (after_entry P Q now (line_of entry)) → AreNumbers (with_line b entry) opened front' limit'
  numbers_on entry opened front limit front' limit' N f l = record {
    opened_is = N.opened_is;
    front_is = f ∙ (ap (λ n. n + cond (is_plan_entry (line_of entry)) 1 0) N.front_is ∙ sym (front_grows b entry));
    limit_is = l ∙ ap bound (sym (now_grows b entry));
  }

  -- a move or a swap leaves the bound
  pub kept_limit : (entry : Entry) (limit : ℕ) → rows_after now.rows (line_of entry) ≡ now.rows → assignment_after now.assignment (line_of entry) ≡ now.assignment → limit ≡ bound now → limit ≡ bound (after_entry P Q now (line_of entry))
  kept_limit entry limit r a e =
      e
      ∙ (ap (λ ws. assignment_bound (copy_lower ws (lower_of now.rows)) now.assignment) (sym (weights_after b entry H.weighed))
      ∙ (ap (λ rows. assignment_bound (copy_lower (after_entry P Q now (line_of entry)).plan.weights (lower_of rows)) now.assignment) (sym r)
      ∙ ap (assignment_bound (copy_lower (after_entry P Q now (line_of entry)).plan.weights (lower_of (rows_after now.rows (line_of entry))))) (sym a)))

  -- ---- moves
  module _ (base : ℕ) (fresh : base ≡ front_of b) (turn : ℕ) (edges : List Edge) where
    not_stale : ¬ Stales b base (Move turn edges)
    not_stale s = s.1 fresh

    pub move_fits : (saved : ℕ) (next : Plan) → IsLowered plan (followed_all P plan edges) saved next → IsFit P Q now (line_of (Move turn edges))
    move_fits saved next L = subst (λ (p : Plan). law.Lowers p (followed_all P p edges)) H.plan_is (next, L.leads, (let s = L.saves in let t = L.some in omega (arith, s, t)))

    pub move_leads : (saved : ℕ) (next : Plan) → IsLowered plan (followed_all P plan edges) saved next → plan_after P Q now.plan (line_of (Move turn edges)) ≡ Some next
    move_leads saved next L = subst (λ (p : Plan). followed_all P p edges ≡ Some next) H.plan_is L.leads

    pub move_accepted : (place saved : ℕ) (next : Plan) → place ≡ length b.journal → IsLowered plan (followed_all P plan edges) saved next → Accepts b base (Move turn edges) place saved
    move_accepted place saved next at L = accepted base (Move turn edges) place saved next not_stale (move_fits saved next L) at (move_leads saved next L) (L.saves ∙ ap plan_total H.plan_is)

    pub move_held : (saved : ℕ) (next : Plan) → IsLowered plan (followed_all P plan edges) saved next → IsHeldBook (with_line b (Move turn edges)) next table perm
    move_held saved next L = held_on (Move turn edges) next table perm tt (move_fits saved next L) (move_leads saved next L) H.table_is H.perm_is

    pub move_refused : (why : Refusal) → IsNoMove P plan edges why → Refuses b base (Move turn edges) why
    move_refused (Stale said is) F = absurd F
    move_refused (BadMove place) F = (not_stale, subst (λ (p : Plan). worlds.StopsAt P p edges place) H.plan_is F)
    move_refused (BadSwap f) F = absurd F
    move_refused (NotBetter held given) F = (not_stale, subst (λ (p : Plan). worlds.IsNoBetter p (followed_all P p edges) held given) H.plan_is F)
    move_refused (Taken low high) F = absurd F
    move_refused (NoRise held given) F = absurd F
    move_refused OutOfMemory F = tt

  -- ---- swaps
  module _ (base : ℕ) (fresh : base ≡ front_of b) (turn t : ℕ) (rounds : List (List Edge)) (h : t < length Q) where
    swap_not_stale : ¬ Stales b base (Swap turn t rounds)
    swap_not_stale s = s.1 fresh

    pub swap_fits : (saved : ℕ) (next : Plan) → IsSwappedIn b.problem plan t rounds saved next → IsFit P Q now (line_of (Swap turn t rounds))
    swap_fits saved next S =
        subst (λ (p : Plan). law.AreRoundsOf P (input_at Q t) rounds p.centre × law.Lowers p (swapped P Q p t rounds)) H.plan_is
        (S.rounds_lead, (next, S.lowered.leads, (let s = S.lowered.saves in let o = S.lowered.some in omega (arith, s, o))))

    pub swap_leads : (saved : ℕ) (next : Plan) → IsSwappedIn b.problem plan t rounds saved next → plan_after P Q now.plan (line_of (Swap turn t rounds)) ≡ Some next
    swap_leads saved next S = subst (λ (p : Plan). swapped P Q p t rounds ≡ Some next) H.plan_is S.lowered.leads

    pub swap_accepted : (place saved : ℕ) (next : Plan) → place ≡ length b.journal → IsSwappedIn b.problem plan t rounds saved next → Accepts b base (Swap turn t rounds) place saved
    swap_accepted place saved next at S = accepted base (Swap turn t rounds) place saved next swap_not_stale (swap_fits saved next S) at (swap_leads saved next S) (S.lowered.saves ∙ ap plan_total H.plan_is)

    pub swap_held : (saved : ℕ) (next : Plan) → IsSwappedIn b.problem plan t rounds saved next → IsHeldBook (with_line b (Swap turn t rounds)) next table perm
    swap_held saved next S = held_on (Swap turn t rounds) next table perm h (swap_fits saved next S) (swap_leads saved next S) H.table_is H.perm_is

    pub swap_refused : (why : Refusal) → IsNoSwap b.problem plan t rounds why → Refuses b base (Swap turn t rounds) why
    swap_refused (Stale said is) F = absurd F
    swap_refused (BadMove place) F = absurd F
    swap_refused (BadSwap f) F = (swap_not_stale, subst (λ (p : Plan). Rattle.book_core.specs.PlanSteps.IsAstray P (input_at Q t) rounds p.centre f) H.plan_is F)
    swap_refused (NotBetter held given) F = (swap_not_stale, subst (λ (p : Plan). law.AreRoundsOf P (input_at Q t) rounds p.centre × worlds.IsNoBetter p (swapped P Q p t rounds) held given) H.plan_is F)
    swap_refused (Taken low high) F = absurd F
    swap_refused (NoRise held given) F = absurd F
    swap_refused OutOfMemory F = tt

  -- ---- rows
  pub row_held : (turn : ℕ) (r : row.Row) (to : List (List ℕ)) → IsOffer b.problem (Row turn r) → row_of now.rows r.i r.j ≡ None → IsTable to → SetsCopies b.problem.weights table to r.i r.j r.lower (sum b.problem.weights)
      → IsHeldBook (with_line b (Row turn r)) plan to perm
  row_held turn r to m none U S =
      held_on (Row turn r) plan to perm m none (ap Some (sym H.plan_is)) (table_grows b.problem.weights now.rows (pair_row r) table to m.0 none H.table_is U S) H.perm_is

  pub row_accepted : (base turn : ℕ) (r : row.Row) (place : ℕ) → row_of now.rows r.i r.j ≡ None → place ≡ length b.journal → Accepts b base (Row turn r) place 0
  row_accepted base turn r place none at = accepted base (Row turn r) place 0 now.plan (λ s. false_true s.0) none at refl (omega arith)
    where
      false_true : ◌≡◌ {A = Bool} false true → ⊥
      false_true e = absurd (cc)

  pub row_limit : (turn : ℕ) (r : row.Row) (to : List (List ℕ)) (limit : ℕ) → to ≡ lower_table b.problem.weights (now.rows ++ (pair_row r ∷ [])) → limit ≡ assignment_bound (weight to) perm → limit ≡ bound (after_entry P Q now (line_of (Row turn r)))
  row_limit turn r to limit t l =
      l
      ∙ (ap (λ (w : List (List ℕ)). assignment_bound (weight w) perm) t
      ∙ (bound_same b.problem.weights (now.rows ++ (pair_row r ∷ [])) perm assigns
      ∙ (ap (λ ws. assignment_bound (copy_lower ws (lower_of (now.rows ++ (pair_row r ∷ [])))) perm) (sym weighs)
      ∙ ap (assignment_bound (copy_lower now.plan.weights (lower_of (now.rows ++ (pair_row r ∷ []))))) H.perm_is)))

  -- ---- assignments
  module _ (turn : ℕ) (assigned : List ℕ) (A : IsAssignment (sum b.problem.weights) assigned) (given : ℕ) (G : given ≡ assignment_bound (weight table) assigned) where
    pub given_is : given ≡ bound_of now assigned
    given_is =
        G
        ∙ (ap (λ (w : List (List ℕ)). assignment_bound (weight w) assigned) H.table_is
        ∙ (bound_same b.problem.weights now.rows assigned A ∙ ap (λ ws. assignment_bound (copy_lower ws (lower_of now.rows)) assigned) (sym weighs)))

    pub pack_held : bound now < given → IsHeldBook (with_line b (Pack turn assigned)) plan table assigned
    pack_held l = held_on (Pack turn assigned) plan table assigned A (omega (arith, l, given_is)) (ap Some (sym H.plan_is)) H.table_is refl

    pub pack_accepted : (base place : ℕ) → bound now < given → place ≡ length b.journal → Accepts b base (Pack turn assigned) place 0
    pack_accepted base place l at = accepted base (Pack turn assigned) place 0 now.plan (λ s. false_true s.0) (omega (arith, l, given_is)) at refl (omega arith)
      where
        false_true : ◌≡◌ {A = Bool} false true → ⊥
        false_true e = absurd (cc)

    pub pack_refused : (base held : ℕ) → held ≡ bound now → given ≤ held → Refuses b base (Pack turn assigned) (NoRise held given)
    pack_refused base held e l = (e, given_is, l)

-- ---- as the parts stand
pub same_book : (b : HeldBook) (entry : Entry) (problem : Problem) (journal : List Entry) → problem ≡ b.problem → journal ≡ b.journal ++ entry ∷ [] → record { problem = problem; opening = b.opening; journal = journal } ≡ with_line b entry
same_book b entry problem journal p j = ap₂ (λ q l. record { problem = q; opening = b.opening; journal = l }) p j
