-- The turns of workers side by side: each without a line falls short or is late somewhere, and few are late.
use Rattle.std.proofs.Common.{◌≡◌, ◌≢◌, ◌∙◌, ◌⊎◌, inl, inr, ℕ, zero, suc, ◌+◌, ◌-◌, ◌*◌, ◌≤◌, Bool, true, false, cond, Some, None, List, [], ◌∷◌, length, filter, All, refl, sym, ap, subst, arith}
use Rattle.std.specs.Prelude.{slice_get, Contains}
use Rattle.std.proofs.lemmas.List.Sums.{length-filter}
use Rattle.geo_orient.specs.declared.Point.{Point}
use Rattle.edge_table.specs.declared.edge.Edge.{Edge}
use Rattle.flip_cnf.specs.HeldFrames.{HeldFrame}
use Rattle.plan_law.specs.Books.{is_plan_entry, front}
use Rattle.plan_law.specs.Jobs as jobs
use Rattle.plan_law.specs.Solving.{turn_of, is_improver, turns_of, HasNoLine, FallsShort, IsLate, AreLinesOfWorkers}
use Rattle.plan_core.specs.HeldPlans.{HeldPlan}
use Rattle.book_core.specs.declared.entry.Entry.{Entry}
use Rattle.book_core.specs.Entries.{Shown, lines_of}
use Rattle.worker_pool.specs.declared.limits.Limits.{Limits}
use Rattle.worker_pool.specs.declared.outcome.Outcome.{Outcome}
use Rattle.worker_pool.specs.declared.outcome.Outcome.TheVariants as outcome
use Rattle.worker_pool.specs.Jobs.{order_of}
use Rattle.worker_pool.specs.Outcomes.{plan_at, job_at, answer_on, Fits}
use Rattle.worker_crew.specs.Crews.{is_stale, AreTurnsOfWorkers}
use Rattle.worker_pool.proofs.Ordered.{same}
use Rattle.book_solve.specs.Solved.{plan_lines}
use Rattle.book_solve.proofs.Lines.{there_is}
use Rattle.book_solve.proofs.Turns.{finding_none, stuck_none, no_step}

-- ---- the turns that came too late, where the first outcome is of turn u
abbrev late_from : ℕ → List Outcome → List ℕ
late_from u [] = []
late_from u (out ∷ outcomes) = cond (is_stale out) (u ∷ late_from (suc u) outcomes) (late_from (suc u) outcomes)

length-late : (u : ℕ) (outcomes : List Outcome) → length (late_from u outcomes) ≡ length (filter is_stale outcomes)
length-late u [] = refl
length-late u (out ∷ outcomes) = by_test (is_stale out) (length-late (suc u) outcomes)
  where
    by_test : (b : Bool) → length (late_from (suc u) outcomes) ≡ length (filter is_stale outcomes) → length (cond b (u ∷ late_from (suc u) outcomes) (late_from (suc u) outcomes)) ≡ length (cond b (out ∷ filter is_stale outcomes) (filter is_stale outcomes))
    by_test true e = ap suc e
    by_test false e = e

one_more : {X : Type 0} (x y : X) (xs : List X) → Contains xs y → Contains (x ∷ xs) y
one_more x y xs (k, l, e) = (suc k, omega (arith, l), e)

late_has : (u n : ℕ) (outcomes : List Outcome) (out : Outcome) → slice_get outcomes n ≡ Some out → is_stale out ≡ true → Contains (late_from u outcomes) (u + n)
late_has u n [] out e stale = absurd (cc)
late_has u zero (x ∷ outcomes) out e stale =
    let is : is_stale x ≡ true = ap is_stale (same x out e) ∙ stale in
    subst (λ (b : Bool). Contains (cond b (u ∷ late_from (suc u) outcomes) (late_from (suc u) outcomes)) (u + zero)) (sym is) (0, omega arith, (let i : u ≡ u + 0 = omega arith in i))
late_has u (suc n) (x ∷ outcomes) out e stale =
    by_test (is_stale x) (subst (Contains (late_from (suc u) outcomes)) (let i : suc u + n ≡ u + suc n = omega arith in i) (late_has (suc u) n outcomes out e stale))
  where
    by_test : (b : Bool) → Contains (late_from (suc u) outcomes) (u + suc n) → Contains (cond b (u ∷ late_from (suc u) outcomes) (late_from (suc u) outcomes)) (u + suc n)
    by_test true c = one_more u (u + suc n) (late_from (suc u) outcomes) c
    by_test false c = c

-- ---- the journal of the turns
module _ (workers : ℕ) (limits : Limits) (frame : HeldFrame) (ground : HeldPlan) (journal : List Entry) (outcomes : List Outcome) (W : AreTurnsOfWorkers workers limits frame ground journal outcomes) where
  abbrev points : List Point
  points = ground.problem.points

  abbrev inputs : List (List Edge)
  inputs = ground.problem.inputs

  count_lines : length (plan_lines journal) ≡ front (lines_of journal)
  count_lines = length-filter is_plan_entry (lines_of journal)

  few : length (late_from 0 outcomes) ≤ (workers - 1) * length (plan_lines journal)
  few =
      let l = length-late 0 outcomes in
      let f = length-filter is_stale outcomes in
      let p = ap (λ (n : ℕ). (workers - 1) * n) (W.published ∙ sym count_lines) in
      let w = W.few in
      omega (arith, l, f, p, w)

  -- an improver's turn without a line fell short on the plan that it saw, or came too late with a better one
  abbrev Fared : ℕ → Type 0
  Fared u = (b : ℕ) × (FallsShort {E = Shown} (order_of limits) points inputs ground.plan (plan_lines journal) u b ⊎ (Contains (late_from 0 outcomes) u × IsLate {E = Shown} (order_of limits) points inputs ground.plan (plan_lines journal) u b))

  fared : (u : ℕ) (out : Outcome) → slice_get outcomes u ≡ Some out → out ≢ outcome.NoMemory → is_improver (job_at limits ground u) ≡ true → All (λ line. turn_of line ≢ u) (plan_lines journal) → Fared u
  fared u out e memory improves none = by_out out e memory (W.turns.fit u out e)
    where
      other_job : (j : jobs.Job) → job_at limits ground u ≡ j → is_improver j ≡ false → ⊥
      other_job j k f = let z : true ≡ false = sym improves ∙ (ap is_improver k ∙ f) in cc

      short : (b : ℕ) → b ≤ front (lines_of journal) → answer_on limits ground u (plan_at ground journal b) ≡ None → Fared u
      short b l n = (b, inl (let c = count_lines in omega (arith, l, c), λ line a. let z : None ≡ Some line = sym n ∙ a in cc))

      by_out : (out : Outcome) → slice_get outcomes u ≡ Some out → out ≢ outcome.NoMemory → Fits limits ground frame u journal out → Fared u
      by_out (outcome.Published place saved) e m f = absurd (no_step limits frame ground journal outcomes W.turns u place saved none f)
      by_out (outcome.NotBetter base) e m f = short base f.0 (finding_none limits ground (plan_at ground journal base) u (job_at limits ground u) f.1)
      by_out (outcome.Stuck base round) e m f = short base f.0 (stuck_none limits ground (plan_at ground journal base) u round (job_at limits ground u) f.1)
      by_out (outcome.Stale base is) e m f = (base, inr (subst (Contains (late_from 0 outcomes)) (let i : 0 + u ≡ u = omega arith in i) (late_has 0 u outcomes (outcome.Stale base is) e refl), ((let l = f.later in let n = f.no_later in let c = count_lines in omega (arith, l, n, c)), (f.line, f.answered))))
      by_out (outcome.Kept place) e m f = absurd (other_job (jobs.Compares f.found.i f.found.j) f.of_job refl)
      by_out (outcome.Taken i j) e m f = absurd (other_job (jobs.Compares i j) f.0 refl)
      by_out (outcome.Packed place limit) e m f = absurd (other_job jobs.Packs f.of_job refl)
      by_out (outcome.NoRise held given) e m f = absurd (other_job jobs.Packs f.of_job refl)
      by_out outcome.NoMemory e m f = absurd (m refl)

  -- ---- the lines of the run
  pub are_lines_of_workers : length outcomes ≡ turns_of (order_of limits) inputs → ((u : ℕ) → slice_get outcomes u ≢ Some outcome.NoMemory) → AreLinesOfWorkers workers (order_of limits) points inputs ground.plan (plan_lines journal)
  are_lines_of_workers count memory = record {
    late = late_from 0 outcomes;
    few = few;
    short = λ u h. is_short u (all_fared u h);
    accounted = λ u h. is_accounted u (all_fared u h);
  }
    where
      all_fared : (u : ℕ) → HasNoLine (order_of limits) inputs (plan_lines journal) u → Fared u
      all_fared u (l, improves, none) = by_out (there_is outcomes u (omega (arith, l, count)))
        where
          by_out : (out : Outcome) × (slice_get outcomes u ≡ Some out) → Fared u
          by_out (out, e) = fared u out e (λ n. memory u (e ∙ ap Some n)) improves none

      is_short : (u : ℕ) → Fared u → Contains (late_from 0 outcomes) u ⊎ ((b : ℕ) × FallsShort {E = Shown} (order_of limits) points inputs ground.plan (plan_lines journal) u b)
      is_short u (b, inl s) = inr (b, s)
      is_short u (b, inr (c, l)) = inl c

      is_accounted : (u : ℕ) → Fared u → (b : ℕ) × (FallsShort {E = Shown} (order_of limits) points inputs ground.plan (plan_lines journal) u b ⊎ IsLate {E = Shown} (order_of limits) points inputs ground.plan (plan_lines journal) u b)
      is_accounted u (b, inl s) = (b, inl s)
      is_accounted u (b, inr (c, l)) = (b, inr l)
