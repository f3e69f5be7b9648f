-- The turns of a run in order: they ascend along its journal, and none is missed.
use Rattle.std.proofs.Common.{◌≡◌, ◌≢◌, ◌∙◌, ◌⊎◌, inl, inr, ℕ, ◌<◌, ◌≤◌, true, false, Some, None, List, length, take, All, AllPairs, refl, sym, ap, arith, lt-ltb, le-ltb}
use Rattle.std.specs.Prelude.{slice_get, slice_index_or, nat_lt}
use Rattle.std.proofs.lemmas.Bool.{cases_lt}
use Rattle.std.proofs.lemmas.List.Kept.{AllPairs-filter}
use Rattle.std.proofs.lemmas.Option.{slice_get-get_or}
use Rattle.geo_orient.specs.declared.Point.{Point}
use Rattle.edge_table.specs.declared.edge.Edge.{Edge}
use Rattle.flip_cnf.specs.HeldFrames.{HeldFrame}
use Rattle.plan_law.specs.Books as law
use Rattle.plan_law.specs.Books.{is_plan_entry, front}
use Rattle.plan_law.specs.Jobs as jobs
use Rattle.plan_law.specs.Solving.{turn_of, is_improver, turns_of, plan_after_all, lower_lines, AreLinesInOrder}
use Rattle.plan_core.specs.HeldPlans.{HeldPlan}
use Rattle.book_core.specs.declared.entry.Entry.{Entry}
use Rattle.book_core.specs.Entries.{Shown, lines_of}
use Rattle.worker_pool.specs.declared.limits.Limits.{Limits}
use Rattle.worker_pool.specs.declared.outcome.Outcome.{Outcome}
use Rattle.worker_pool.specs.declared.outcome.Outcome.TheVariants as outcome
use Rattle.worker_pool.specs.Jobs.{order_of}
use Rattle.worker_pool.specs.Outcomes.{plan_at, job_at, answer_on, Fits, made_by}
use Rattle.worker_pool.specs.Runs.{IsInOrder, entries_below, AreTurnsInOrder}
use Rattle.worker_pool.proofs.Ordered.{below_grows, stands_is}
use Rattle.book_solve.specs.Solved.{plan_lines}
use Rattle.book_solve.proofs.Lines.{there_is, first_passed, passed_below}
use Rattle.book_solve.proofs.Turns.{finding_none, stuck_none, owned_line, no_step}

-- ---- the journal of the turns
module _ (limits : Limits) (frame : HeldFrame) (ground : HeldPlan) (journal : List Entry) (outcomes : List Outcome) (R : AreTurnsInOrder limits frame ground journal outcomes) where
  abbrev points : List Point
  points = ground.problem.points

  abbrev inputs : List (List Edge)
  inputs = ground.problem.inputs

  -- the turn of an entry made it, and it stands behind those of all lower turns
  record IsPlaced (n : ℕ) (line : law.Entry Shown) : Type 0 where
    out : Outcome
    by_turn : slice_get outcomes (turn_of line) ≡ Some out
    place : n ≡ entries_below outcomes (turn_of line)
    one : made_by out ≡ 1

  placed_line : (n : ℕ) (line : law.Entry Shown) → slice_get (lines_of journal) n ≡ Some line → IsPlaced n line
  placed_line n line e =
      let O = owned_line limits frame ground journal outcomes R.turns n line e in
      let p = stands_is ground journal (entries_below outcomes (turn_of line)) n O.out (R.in_order (turn_of line) O.out O.by_turn) O.stands in
      record { out = O.out; by_turn = O.by_turn; place = p.0; one = p.1 }

  -- ---- the turns ascend along the journal
  lower_first : (n : ℕ) (line : law.Entry Shown) (u : ℕ) (out : Outcome) → slice_get (lines_of journal) n ≡ Some line → slice_get outcomes u ≡ Some out → n < entries_below outcomes u → turn_of line < u
  lower_first n line u out e at l = by_order (cases_lt (turn_of line) u) (cases_lt u (turn_of line))
    where
      O : IsPlaced n line
      O = placed_line n line e

      by_order : (turn_of line < u) ⊎ (u ≤ turn_of line) → (u < turn_of line) ⊎ (turn_of line ≤ u) → turn_of line < u
      by_order (inl k) _ = k
      by_order (inr k) (inl m) = absurd (let g = below_grows made_by outcomes u (turn_of line) out at m in let p = O.place in omega (arith, g, p, l))
      by_order (inr k) (inr m) = absurd (let i : turn_of line ≡ u = omega (arith, k, m) in let g = ap (entries_below outcomes) i in let p = O.place in omega (arith, g, p, l))

  higher_after : (n : ℕ) (line : law.Entry Shown) (u : ℕ) → slice_get (lines_of journal) n ≡ Some line → entries_below outcomes u ≤ n → u ≤ turn_of line
  higher_after n line u e l = by_order (cases_lt (turn_of line) u)
    where
      O : IsPlaced n line
      O = placed_line n line e

      by_order : (turn_of line < u) ⊎ (u ≤ turn_of line) → u ≤ turn_of line
      by_order (inr k) = k
      by_order (inl k) = absurd (let g = below_grows made_by outcomes (turn_of line) u O.out O.by_turn k in let p = O.place in let o = O.one in omega (arith, g, p, o, l))

  ascending : AllPairs (λ line later. turn_of line < turn_of later) (plan_lines journal)
  ascending = AllPairs-filter (λ line later. turn_of line < turn_of later) is_plan_entry (lines_of journal) (λ i j d l m. by_places i j (slice_index_or (lines_of journal) i d) (slice_index_or (lines_of journal) j d) l (slice_get-get_or (lines_of journal) i d (omega (arith, l, m))) (slice_get-get_or (lines_of journal) j d m))
    where
      by_places : (i j : ℕ) (line later : law.Entry Shown) → i < j → slice_get (lines_of journal) i ≡ Some line → slice_get (lines_of journal) j ≡ Some later → turn_of line < turn_of later
      by_places i j line later l e f = let O = placed_line j later f in let p = O.place in lower_first i line (turn_of later) O.out e O.by_turn (omega (arith, l, p))

  -- ---- an improver's turn without a line has no answer on the plan after the lines of lower turns
  lower_are : (u : ℕ) (out : Outcome) → slice_get outcomes u ≡ Some out → take (front (take (entries_below outcomes u) (lines_of journal))) (plan_lines journal) ≡ lower_lines u (plan_lines journal)
  lower_are u out e =
      first_passed is_plan_entry (lines_of journal) (entries_below outcomes u)
      ∙ sym (passed_below is_plan_entry (λ line. nat_lt (turn_of line) u) (lines_of journal) (entries_below outcomes u)
      (λ k line at l. lt-ltb (turn_of line) u (lower_first k line u out at e l))
      (λ k line at l. le-ltb (turn_of line) u (higher_after k line u at l)))

  plan_lower : (u base : ℕ) (out : Outcome) → slice_get outcomes u ≡ Some out → base ≡ front (take (entries_below outcomes u) (lines_of journal)) → plan_at ground journal base ≡ plan_after_all points inputs ground.plan (lower_lines u (plan_lines journal))
  plan_lower u base out e b = ap (plan_after_all points inputs ground.plan) (ap (λ (k : ℕ). take k (plan_lines journal)) b ∙ lower_are u out e)

  without_line : (u : ℕ) (out : Outcome) → slice_get outcomes u ≡ Some out → out ≢ outcome.NoMemory → is_improver (job_at limits ground u) ≡ true → All (λ line. turn_of line ≢ u) (plan_lines journal)
      → answer_on limits ground u (plan_after_all points inputs ground.plan (lower_lines u (plan_lines journal))) ≡ None
  without_line u out e memory improves none = by_out out e memory (R.turns.fit u out e) (R.in_order u out e)
    where
      HasNone : Type 0
      HasNone = answer_on limits ground u (plan_after_all points inputs ground.plan (lower_lines u (plan_lines journal))) ≡ None

      other_job : (j : jobs.Job) → job_at limits ground u ≡ j → is_improver j ≡ false → ⊥
      other_job j k f = let z : true ≡ false = sym improves ∙ (ap is_improver k ∙ f) in cc

      by_out : (out : Outcome) → slice_get outcomes u ≡ Some out → out ≢ outcome.NoMemory → Fits limits ground frame u journal out → IsInOrder ground journal (entries_below outcomes u) out → HasNone
      by_out (outcome.Published place saved) e m f o = absurd (no_step limits frame ground journal outcomes R.turns u place saved none f)
      by_out (outcome.NotBetter base) e m f o = ap (answer_on limits ground u) (sym (plan_lower u base (outcome.NotBetter base) e o)) ∙ finding_none limits ground (plan_at ground journal base) u (job_at limits ground u) f.1
      by_out (outcome.Stuck base round) e m f o = ap (answer_on limits ground u) (sym (plan_lower u base (outcome.Stuck base round) e o)) ∙ stuck_none limits ground (plan_at ground journal base) u round (job_at limits ground u) f.1
      by_out (outcome.Stale base is) e m f o = absurd o
      by_out (outcome.Kept place) e m f o = absurd (other_job (jobs.Compares f.found.i f.found.j) f.of_job refl)
      by_out (outcome.Taken i j) e m f o = absurd (other_job (jobs.Compares i j) f.0 refl)
      by_out (outcome.Packed place limit) e m f o = absurd (other_job jobs.Packs f.of_job refl)
      by_out (outcome.NoRise held given) e m f o = absurd (other_job jobs.Packs f.of_job refl)
      by_out outcome.NoMemory e m f o = absurd (m refl)

  -- ---- the lines of the run
  pub are_lines_in_order : length outcomes ≡ turns_of (order_of limits) inputs → ((u : ℕ) → slice_get outcomes u ≢ Some outcome.NoMemory) → AreLinesInOrder (order_of limits) points inputs ground.plan (plan_lines journal)
  are_lines_in_order count memory = record { ascend = ascending; others = λ u (l, improves, none). by_out u improves none (there_is outcomes u (omega (arith, l, count))) }
    where
      by_out : (u : ℕ) → is_improver (job_at limits ground u) ≡ true → All (λ line. turn_of line ≢ u) (plan_lines journal) → (out : Outcome) × (slice_get outcomes u ≡ Some out) → answer_on limits ground u (plan_after_all points inputs ground.plan (lower_lines u (plan_lines journal))) ≡ None
      by_out u improves none (out, e) = without_line u out e (λ n. memory u (e ∙ ap Some n)) improves none
