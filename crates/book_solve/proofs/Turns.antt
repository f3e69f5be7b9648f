-- What the turns of a run say of its journal, in whatever order they were taken.
use Rattle.std.proofs.Common.{◌≡◌, ◌≢◌, ◌∙◌, ℕ, ◌<◌, true, false, Some, None, List, length, take, filter, All, AllPairs, sym, ap, subst, arith}
use Rattle.std.specs.Prelude.{slice_get, slice_index_or}
use Rattle.std.proofs.lemmas.List.Elements.{All-filter}
use Rattle.std.proofs.lemmas.List.Kept.{AllPairs-filter}
use Rattle.std.proofs.lemmas.Option.{slice_get_within, slice_get-get_or}
use Rattle.geo_orient.specs.declared.Point.{Point}
use Rattle.edge_table.specs.declared.edge.Edge.{Edge}
use Rattle.flip_cnf.specs.HeldFrames.{HeldFrame}
use Rattle.plan_law.specs.Plans.{Plan, Settles}
use Rattle.plan_law.specs.Books as law
use Rattle.plan_law.specs.Books.{State, is_plan_entry, opening_state, state_after, row_of}
use Rattle.plan_law.specs.Jobs as jobs
use Rattle.plan_law.specs.Solving.{turn_of, swap_of, move_of, answer, turns_of, plan_after_all, AreLines}
use Rattle.plan_core.specs.HeldPlans.{HeldPlan}
use Rattle.book_core.specs.declared.entry.Entry.{Entry}
use Rattle.book_core.specs.declared.entry.Entry.TheVariants as entry
use Rattle.book_core.specs.Entries.{Shown, pair_row, line_of, lines_of}
use Rattle.worker_pool.specs.declared.limits.Limits.{Limits}
use Rattle.worker_pool.specs.declared.outcome.Outcome.{Outcome}
use Rattle.worker_pool.specs.declared.outcome.Outcome.TheVariants as outcome
use Rattle.worker_pool.specs.Jobs.{order_of}
use Rattle.worker_pool.specs.Outcomes.{state_at, job_at, answer_on, FindsNone, Sticks, Fits}
use Rattle.worker_pool.specs.Turns.{now_at}
use Rattle.worker_pool.specs.Runs.{StandsAt, AreTurns}
use Rattle.worker_pool.proofs.Compared.{line_at}
use Rattle.worker_pool.proofs.Ordered.{same, answer_step}
use Rattle.worker_pool.proofs.Turned.{plan_by_steps}
use Rattle.book_solve.specs.Solved.{plan_lines}
use Rattle.book_solve.proofs.Lines.{passed_at, of_passed, entry_at}

-- where an improver finds nothing better it has no answer
module _ (limits : Limits) (ground : HeldPlan) (plan : Plan) (u : ℕ) where
  abbrev pub NoAnswer : jobs.Job → Type 0
  NoAnswer j = answer {E = Shown} (order_of limits).words ground.problem.points ground.problem.inputs plan u j ≡ None

  pub finding_none : (j : jobs.Job) → FindsNone limits ground plan j → NoAnswer j
  finding_none (jobs.Walks p) h = ap (move_of u) h
  finding_none (jobs.Descends p t) (held, given, h) = ap (swap_of u t) h
  finding_none (jobs.Compares i j) h = absurd h
  finding_none jobs.Packs h = absurd h

  pub stuck_none : (round : ℕ) (j : jobs.Job) → Sticks ground plan round j → NoAnswer j
  stuck_none round (jobs.Walks p) h = absurd h
  stuck_none round (jobs.Descends p t) h = ap (swap_of u t) h
  stuck_none round (jobs.Compares i j) h = absurd h
  stuck_none round jobs.Packs h = absurd h

-- an outcome stands at one place
one_place : (out : Outcome) (m n : ℕ) → StandsAt out m → StandsAt out n → m ≡ n
one_place (outcome.Published place saved) m n s t = sym s ∙ t
one_place (outcome.Kept place) m n s t = sym s ∙ t
one_place (outcome.Packed place limit) m n s t = sym s ∙ t
one_place (outcome.NotBetter base) m n s t = absurd s
one_place (outcome.Stuck base round) m n s t = absurd s
one_place (outcome.Stale base is) m n s t = absurd s
one_place (outcome.Taken i j) m n s t = absurd s
one_place (outcome.NoRise held given) m n s t = absurd s
one_place outcome.NoMemory m n s t = absurd s

-- ---- the journal of the turns
module _ (limits : Limits) (frame : HeldFrame) (ground : HeldPlan) (journal : List Entry) (outcomes : List Outcome) (T : AreTurns limits frame ground journal outcomes) where
  abbrev points : List Point
  points = ground.problem.points

  abbrev inputs : List (List Edge)
  inputs = ground.problem.inputs

  -- the turn of an entry made it
  pub record IsOwned (n : ℕ) (line : law.Entry Shown) : Type 0 where
    pub out : Outcome
    pub by_turn : slice_get outcomes (turn_of line) ≡ Some out
    pub stands : StandsAt out n

  pub owned_line : (n : ℕ) (line : law.Entry Shown) → slice_get (lines_of journal) n ≡ Some line → IsOwned n line
  owned_line n line e = by_entry (entry_at journal n line e)
    where
      by_entry : (x : Entry) × (slice_get journal n ≡ Some x) × (line_of x ≡ line) → IsOwned n line
      by_entry (x, there, is) = subst (IsOwned n) is (let o = T.owned n x there in record { out = o.0; by_turn = o.1; stands = o.2 })

  -- two lines are of two turns
  distinct : AllPairs (λ line later. turn_of line ≢ turn_of later) (plan_lines journal)
  distinct = AllPairs-filter (λ line later. turn_of line ≢ turn_of later) is_plan_entry (lines_of journal) (λ i j d l m. by_places i j (slice_index_or (lines_of journal) i d) (slice_index_or (lines_of journal) j d) l (slice_get-get_or (lines_of journal) i d (omega (arith, l, m))) (slice_get-get_or (lines_of journal) j d m))
    where
      by_places : (i j : ℕ) (line later : law.Entry Shown) → i < j → slice_get (lines_of journal) i ≡ Some line → slice_get (lines_of journal) j ≡ Some later → turn_of line ≢ turn_of later
      by_places i j line later l e f = λ one.
          let O = owned_line i line e in
          let P = owned_line j later f in
          let out : O.out ≡ P.out = same O.out P.out (sym O.by_turn ∙ (ap (slice_get outcomes) one ∙ P.by_turn)) in
          let place = one_place P.out i j (subst (λ (out : Outcome). StandsAt out i) out O.stands) P.stands in
          absurd (omega (arith, l, place))

  early : All (λ line. turn_of line < length outcomes) (plan_lines journal)
  early = All-filter is_plan_entry (λ line. turn_of line < length outcomes) (lines_of journal) (λ k d l. let O = owned_line k (slice_index_or (lines_of journal) k d) (slice_get-get_or (lines_of journal) k d l) in slice_get_within outcomes (turn_of (slice_index_or (lines_of journal) k d)) O.out O.by_turn)

  -- ---- each move or swap is the answer of its turn on the plan before it
  step_answered : (n : ℕ) (line : law.Entry Shown) → slice_get (lines_of journal) n ≡ Some line → is_plan_entry line ≡ true → answer_on limits ground (turn_of line) (state_at ground journal n).plan ≡ Some line
  step_answered n line e step = by_out O.out (T.fit (turn_of line) O.out O.by_turn) O.stands
    where
      O : IsOwned n line
      O = owned_line n line e

      by_out : (out : Outcome) → Fits limits ground frame (turn_of line) journal out → StandsAt out n → answer_on limits ground (turn_of line) (state_at ground journal n).plan ≡ Some line
      by_out (outcome.Published place saved) f s =
          ap (λ (k : ℕ). answer_on limits ground (turn_of line) (state_at ground journal k).plan) (sym s)
          ∙ (f.answered ∙ (sym f.there ∙ (ap (slice_get (lines_of journal)) s ∙ e)))
      by_out (outcome.Kept place) f s =
          let i = same (law.Row (turn_of line) (pair_row f.found)) line (sym (line_at journal place (entry.Row (turn_of line) f.found) f.there) ∙ (ap (slice_get (lines_of journal)) s ∙ e)) in
          absurd (let z : false ≡ true = ap is_plan_entry i ∙ step in cc)
      by_out (outcome.Packed place limit) f s =
          let i = same (law.Pack (turn_of line) f.perm) line (sym (line_at journal place (entry.Pack (turn_of line) f.perm) f.there) ∙ (ap (slice_get (lines_of journal)) s ∙ e)) in
          absurd (let z : false ≡ true = ap is_plan_entry i ∙ step in cc)
      by_out (outcome.NotBetter base) f s = absurd s
      by_out (outcome.Stuck base round) f s = absurd s
      by_out (outcome.Stale base is) f s = absurd s
      by_out (outcome.Taken i j) f s = absurd s
      by_out (outcome.NoRise held given) f s = absurd s
      by_out outcome.NoMemory f s = absurd s

  -- the plan before an entry is that after the moves and swaps before it
  plan_before : (n : ℕ) → (state_at ground journal n).plan ≡ plan_after_all points inputs ground.plan (filter is_plan_entry (take n (lines_of journal)))
  plan_before n = plan_by_steps points inputs (opening_state ground.plan) (take n (lines_of journal))

  line_answered : (k : ℕ) (line : law.Entry Shown) → slice_get (plan_lines journal) k ≡ Some line → answer_on limits ground (turn_of line) (plan_after_all points inputs ground.plan (take k (plan_lines journal))) ≡ Some line
  line_answered k line e = by_place (passed_at is_plan_entry (lines_of journal) k line e)
    where
      by_place : (n : ℕ) × (slice_get (lines_of journal) n ≡ Some line) × (is_plan_entry line ≡ true) × (take k (plan_lines journal) ≡ filter is_plan_entry (take n (lines_of journal)))
          → answer_on limits ground (turn_of line) (plan_after_all points inputs ground.plan (take k (plan_lines journal))) ≡ Some line
      by_place (n, there, step, first) = ap (answer_on limits ground (turn_of line)) (ap (plan_after_all points inputs ground.plan) first ∙ sym (plan_before n)) ∙ step_answered n line there step

  -- a turn without a line made no move or swap
  pub no_step : (u place saved : ℕ) → All (λ line. turn_of line ≢ u) (plan_lines journal) → ¬ Fits limits ground frame u journal (outcome.Published place saved)
  no_step u place saved none f =
      let s = answer_step (order_of limits).words points inputs (state_at ground journal place).plan u (job_at limits ground u) f.line f.answered in
      of_passed is_plan_entry (λ line. turn_of line ≢ u) (lines_of journal) place f.line none f.there s.1 s.0

  -- ---- the lines of the run
  pub are_lines : (made : List (List Edge)) (end : Plan) → length outcomes ≡ turns_of (order_of limits) inputs → Settles points (now_at ground journal).plan made end → AreLines (order_of limits) points inputs ground.plan (plan_lines journal) made end
  are_lines made end count settles = record {
    early = subst (λ (n : ℕ). All (λ line. turn_of line < n) (plan_lines journal)) count early;
    distinct = distinct;
    answers = line_answered;
    settles = subst (λ (plan : Plan). Settles points plan made end) (plan_by_steps points inputs (opening_state ground.plan) (lines_of journal)) settles;
  }
