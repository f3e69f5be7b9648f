-- What the turns of several workers leave together.
use Rattle.std.proofs.Common.{◌≡◌, ◌∙◌, ℕ, zero, suc, ◌+◌, ◌-◌, ◌*◌, ◌<◌, ◌≤◌, Bool, true, false, cond, eqb, eq-eqb, eqb-true, Some, List, [], ◌∷◌, length, take, All, refl, sym, ap, ap₂, subst, arith}
use Rattle.std.proofs.Math.ListN.{replicate}
use Rattle.std.specs.Prelude.{slice_get, sum_by, count_by}
use Rattle.std.proofs.lemmas.List.{map-append, take_all, length-replicate}
use Rattle.std.proofs.lemmas.List.Elements.{All-head, All-tail, All-append}
use Rattle.std.proofs.lemmas.List.Sums.{sum_by-cons, sum_by-append}
use Rattle.std.proofs.lemmas.Bool.Decides.{nat_tests}
use Rattle.std.proofs.lemmas.Option.{slice_get_within}
use mathlib.Core.List.{IsPrefix}
use Rattle.vcell.specs.Passes.{PassView}
use Rattle.claims.specs.Draws.{SeatView, times, once_below, EachOnceBelow}
use Rattle.claims.proofs.Numbers.{times-append}
use Rattle.flip_cnf.specs.HeldFrames.{HeldFrame}
use Rattle.plan_law.specs.Plans.{plan_total}
use Rattle.plan_law.specs.Books as law
use Rattle.plan_law.specs.Books.{State, is_plan_entry, opening_state, after_entry, state_after, front, IsBook}
use Rattle.plan_law.specs.BookLaws.{Improves}
use Rattle.plan_law.specs.Solving.{turns_of, turn_of}
use Rattle.plan_law.proofs.Proved.{journals_improve}
use Rattle.plan_core.specs.HeldPlans.{HeldPlan}
use Rattle.book_core.specs.declared.entry.Entry.{Entry}
use Rattle.book_core.specs.declared.entry.Entry.TheVariants as entry
use Rattle.book_core.specs.Entries.{Shown, pair_row, line_of, lines_of, IsJustifiedRow}
use Rattle.book_core.specs.HeldBooks.{HeldBook, ground_of, book_of}
use Rattle.worker_pool.specs.declared.limits.Limits.{Limits}
use Rattle.worker_pool.specs.declared.outcome.Outcome.{Outcome}
use Rattle.worker_pool.specs.declared.outcome.Outcome.TheVariants as outcome
use Rattle.worker_pool.specs.Jobs.{order_of}
use Rattle.worker_pool.specs.Outcomes.{state_at, job_at, Fits, made_by, saved_by, steps_by}
use Rattle.worker_pool.specs.Turns.{now_at}
use Rattle.worker_pool.specs.Runs.{StandsAt}
use Rattle.worker_pool.proofs.Compared.{line_at}
use Rattle.worker_pool.proofs.Ordered.{same, fits_later, answer_step}
use Rattle.worker_pool.proofs.Replicas.{length-lines}
use Rattle.worker_pool.proofs.Turned.{front_grows}
use Rattle.worker_crew.specs.declared.taken.Taken.{Taken}
use Rattle.worker_crew.specs.Workers.{turns_in, HasTaken, HaveTaken, all_taken, filled}
use Rattle.worker_crew.specs.Crews.{is_published, is_stale, AreTurnsOfWorkers}
use Rattle.worker_crew.proofs.Counted.{sum_below, below_same, below_none, below_lone, all_ones, falls_by, sum_same, sum_add, exchange, count_at, count_there, sum_places, one_passes, Passes, some_passes, worth_once}
use Rattle.worker_crew.proofs.Filled.{replicate_at, replicate_is, sum_replicate, AllPlaced, filled_all, sum_filled, times_within}

abbrev Pass : Type 0
Pass = PassView Entry HeldPlan

-- ---- worker by worker
module _ (limits : Limits) (frame : HeldFrame) (ground : HeldPlan) where
  abbrev HasPart : SeatView → Pass → List Taken → Type 0
  HasPart seat pass part = HasTaken limits frame ground seat.numbers pass part

  abbrev HaveParts : List SeatView → List Pass → List (List Taken) → Type 0
  HaveParts seats passes parts = HaveTaken limits frame ground seats passes parts

  first_has : (s : SeatView) (p : Pass) (part : List Taken) (seats : List SeatView) (passes : List Pass) (parts : List (List Taken)) → HaveParts (s ∷ seats) (p ∷ passes) (part ∷ parts) → HasPart s p part
  first_has s p part seats passes parts h = h.each 0 s p part refl refl refl

  others_have : (s : SeatView) (p : Pass) (part : List Taken) (seats : List SeatView) (passes : List Pass) (parts : List (List Taken)) → HaveParts (s ∷ seats) (p ∷ passes) (part ∷ parts) → HaveParts seats passes parts
  others_have s p part seats passes parts h = let a = h.seats_each in let b = h.passes_each in record {
    seats_each = omega (arith, a);
    passes_each = omega (arith, b);
    each = λ k seat pass taken d e f. h.each (suc k) seat pass taken d e f;
  }

  -- what holds of no worker, and of one more whenever it holds of the others
  by_worker : (Q : List SeatView → List Pass → List (List Taken) → Type 0) → Q [] [] []
      → ((s : SeatView) (p : Pass) (part : List Taken) (seats : List SeatView) (passes : List Pass) (parts : List (List Taken)) → HasPart s p part → Q seats passes parts → Q (s ∷ seats) (p ∷ passes) (part ∷ parts))
      → (seats : List SeatView) (passes : List Pass) (parts : List (List Taken)) → HaveParts seats passes parts → Q seats passes parts
  by_worker Q none more [] [] [] h = none
  by_worker Q none more (s ∷ seats) (p ∷ passes) (part ∷ parts) h = more s p part seats passes parts (first_has s p part seats passes parts h) (by_worker Q none more seats passes parts (others_have s p part seats passes parts h))
  by_worker Q none more [] [] (part ∷ parts) h = absurd (let a = h.seats_each in omega (arith, a))
  by_worker Q none more [] (p ∷ passes) [] h = absurd (let a = h.passes_each in omega (arith, a))
  by_worker Q none more [] (p ∷ passes) (part ∷ parts) h = absurd (let a = h.seats_each in omega (arith, a))
  by_worker Q none more (s ∷ seats) [] [] h = absurd (let a = h.seats_each in omega (arith, a))
  by_worker Q none more (s ∷ seats) [] (part ∷ parts) h = absurd (let a = h.passes_each in omega (arith, a))
  by_worker Q none more (s ∷ seats) (p ∷ passes) [] h = absurd (let a = h.seats_each in omega (arith, a))

  abbrev IsInRun : Taken → Type 0
  IsInRun t = t.turn < turns_of (order_of limits) ground.problem.inputs

  pub turns_below : (seats : List SeatView) (passes : List (PassView Entry HeldPlan)) (parts : List (List Taken)) → HaveTaken limits frame ground seats passes parts → All (λ (t : Taken). t.turn < turns_of (order_of limits) ground.problem.inputs) (all_taken parts)
  turns_below = by_worker (λ seats passes parts. All IsInRun (all_taken parts)) (λ k d l. absurd (omega (arith, l))) (λ s p part seats passes parts h rest. All-append IsInRun part (all_taken parts) h.turns rest)

  drawn_once : (x : ℕ) (seats : List SeatView) (passes : List Pass) (parts : List (List Taken)) → HaveParts seats passes parts → times x (turns_in (all_taken parts)) ≤ sum_by (λ (s : SeatView). times x s.numbers) seats
  drawn_once x = by_worker (λ seats passes parts. times x (turns_in (all_taken parts)) ≤ sum_by (λ (s : SeatView). times x s.numbers) seats) (omega arith) one_more
    where
      one_more : (s : SeatView) (p : Pass) (part : List Taken) (seats : List SeatView) (passes : List Pass) (parts : List (List Taken)) → HasPart s p part → times x (turns_in (all_taken parts)) ≤ sum_by (λ (s : SeatView). times x s.numbers) seats
          → times x (turns_in (all_taken (part ∷ parts))) ≤ sum_by (λ (s : SeatView). times x s.numbers) (s ∷ seats)
      one_more s p part seats passes parts h rest =
          let a = ap (times x) (map-append (λ (t : Taken). t.turn) part (all_taken parts)) in
          let b = times-append x (turns_in part) (turns_in (all_taken parts)) in
          let c = sum_by-cons (λ (s : SeatView). times x s.numbers) s seats in
          let d = h.drawn x in
          omega (arith, a, b, c, d, rest)

  all_made : (seats : List SeatView) (passes : List Pass) (parts : List (List Taken)) → HaveParts seats passes parts → sum_by (λ (t : Taken). made_by t.outcome) (all_taken parts) ≡ sum_by (λ (p : Pass). p.made) passes
  all_made = by_worker (λ seats passes parts. sum_by (λ (t : Taken). made_by t.outcome) (all_taken parts) ≡ sum_by (λ (p : Pass). p.made) passes) refl one_more
    where
      one_more : (s : SeatView) (p : Pass) (part : List Taken) (seats : List SeatView) (passes : List Pass) (parts : List (List Taken)) → HasPart s p part → sum_by (λ (t : Taken). made_by t.outcome) (all_taken parts) ≡ sum_by (λ (p : Pass). p.made) passes
          → sum_by (λ (t : Taken). made_by t.outcome) (all_taken (part ∷ parts)) ≡ sum_by (λ (p : Pass). p.made) (p ∷ passes)
      one_more s p part seats passes parts h rest =
          let a = sum_by-append (λ (t : Taken). made_by t.outcome) part (all_taken parts) in
          let c = sum_by-cons (λ (p : Pass). p.made) p passes in
          let d = h.made in
          omega (arith, a, c, d, rest)

  module _ (journal : List Entry) where
    abbrev IsSeen : Pass → Type 0
    IsSeen p = IsPrefix p.seen journal

    abbrev FitsIt : Taken → Type 0
    FitsIt t = Fits limits ground frame t.turn journal t.outcome

    all_fit : (seats : List SeatView) (passes : List Pass) (parts : List (List Taken)) → HaveParts seats passes parts → All IsSeen passes → All FitsIt (all_taken parts)
    all_fit = by_worker (λ seats passes parts. All IsSeen passes → All FitsIt (all_taken parts)) (λ seen k d l. absurd (omega (arith, l))) one_more
      where
        one_more : (s : SeatView) (p : Pass) (part : List Taken) (seats : List SeatView) (passes : List Pass) (parts : List (List Taken)) → HasPart s p part → (All IsSeen passes → All FitsIt (all_taken parts)) → All IsSeen (p ∷ passes) → All FitsIt (all_taken (part ∷ parts))
        one_more s p part seats passes parts h rest seen =
            All-append FitsIt part (all_taken parts)
            (λ k t l. let g = All-head IsSeen p passes seen in fits_later limits ground frame _ p.seen journal g _ (h.fit k t l))
            (rest (All-tail IsSeen p passes seen))

    abbrev steps_of : Taken → ℕ
    steps_of t = steps_by t.outcome

    all_steps : (seats : List SeatView) (passes : List Pass) (parts : List (List Taken)) → HaveParts seats passes parts → All IsSeen passes → sum_by steps_of (all_taken parts) ≤ length passes * front (lines_of journal)
    all_steps = by_worker (λ seats passes parts. All IsSeen passes → sum_by steps_of (all_taken parts) ≤ length passes * front (lines_of journal)) (λ seen. omega arith) one_more
      where
        one_more : (s : SeatView) (p : Pass) (part : List Taken) (seats : List SeatView) (passes : List Pass) (parts : List (List Taken)) → HasPart s p part → (All IsSeen passes → sum_by steps_of (all_taken parts) ≤ length passes * front (lines_of journal))
            → All IsSeen (p ∷ passes) → sum_by steps_of (all_taken (part ∷ parts)) ≤ length (p ∷ passes) * front (lines_of journal)
        one_more s p part seats passes parts h rest seen =
            let a = sum_by-append steps_of part (all_taken parts) in
            let b = h.steps in
            let c = front_grows p.seen journal (All-head IsSeen p passes seen) in
            let d = rest (All-tail IsSeen p passes seen) in
            omega (arith, a, b, c, d)

-- ---- where outcomes stand
-- the outcome made the entry at the place
abbrev stands : Outcome → ℕ → Bool
stands (outcome.Published place saved) n = eqb place n
stands (outcome.Kept place) n = eqb place n
stands (outcome.Packed place limit) n = eqb place n
stands (outcome.NotBetter base) n = false
stands (outcome.Stuck base round) n = false
stands (outcome.Stale base is) n = false
stands (outcome.Taken i j) n = false
stands (outcome.NoRise held given) n = false
stands outcome.NoMemory n = false

stands_from : (out : Outcome) (n : ℕ) → StandsAt out n → stands out n ≡ true
stands_from (outcome.Published place saved) n s = eq-eqb place n s
stands_from (outcome.Kept place) n s = eq-eqb place n s
stands_from (outcome.Packed place limit) n s = eq-eqb place n s
stands_from (outcome.NotBetter base) n s = absurd s
stands_from (outcome.Stuck base round) n s = absurd s
stands_from (outcome.Stale base is) n s = absurd s
stands_from (outcome.Taken i j) n s = absurd s
stands_from (outcome.NoRise held given) n s = absurd s
stands_from outcome.NoMemory n s = absurd s

stands_at : (out : Outcome) (n : ℕ) → stands out n ≡ true → StandsAt out n
stands_at (outcome.Published place saved) n t = eqb-true place n t
stands_at (outcome.Kept place) n t = eqb-true place n t
stands_at (outcome.Packed place limit) n t = eqb-true place n t
stands_at (outcome.NotBetter base) n t = absurd (cc)
stands_at (outcome.Stuck base round) n t = absurd (cc)
stands_at (outcome.Stale base is) n t = absurd (cc)
stands_at (outcome.Taken i j) n t = absurd (cc)
stands_at (outcome.NoRise held given) n t = absurd (cc)
stands_at outcome.NoMemory n t = absurd (cc)

-- the line of an entry that a turn made, and whether it is a move or a swap
record IsLineOf (journal : List Entry) (u n : ℕ) (step : Bool) : Type 0 where
  line : law.Entry Shown
  there : slice_get (lines_of journal) n ≡ Some line
  by_turn : turn_of line ≡ u
  step_is : is_plan_entry line ≡ step

-- ---- outcomes that fit a legal journal, of which each made as many entries as it says
module _ (limits : Limits) (frame : HeldFrame) (b : HeldBook) (legal : IsBook (IsJustifiedRow b.problem.points b.problem.inputs) b.problem.points b.problem.inputs (book_of b)) where
  abbrev ground : HeldPlan
  ground = ground_of b

  abbrev entries : ℕ
  entries = length b.journal

  abbrev OwnFits : ℕ → Outcome → Type 0
  OwnFits u out = Fits limits ground frame u b.journal out

  step_line : (u place saved : ℕ) → OwnFits u (outcome.Published place saved) → IsLineOf b.journal u place true
  step_line u place saved f = record {
    line = f.line;
    there = f.there;
    by_turn = (answer_step (order_of limits).words ground.problem.points ground.problem.inputs (state_at ground b.journal place).plan u (job_at limits ground u) f.line f.answered).0;
    step_is = (answer_step (order_of limits).words ground.problem.points ground.problem.inputs (state_at ground b.journal place).plan u (job_at limits ground u) f.line f.answered).1;
  }

  row_line : (u place : ℕ) → OwnFits u (outcome.Kept place) → IsLineOf b.journal u place false
  row_line u place f = record { line = law.Row u (pair_row f.found); there = line_at b.journal place (entry.Row u f.found) f.there; by_turn = refl; step_is = refl }

  pack_line : (u place limit : ℕ) → OwnFits u (outcome.Packed place limit) → IsLineOf b.journal u place false
  pack_line u place limit f = record { line = law.Pack u f.perm; there = line_at b.journal place (entry.Pack u f.perm) f.there; by_turn = refl; step_is = refl }

  own_line : (u n : ℕ) (out : Outcome) → OwnFits u out → StandsAt out n → (step : Bool) × IsLineOf b.journal u n step
  own_line u n (outcome.Published place saved) f s = (true, subst (λ (k : ℕ). IsLineOf b.journal u k true) s (step_line u place saved f))
  own_line u n (outcome.Kept place) f s = (false, subst (λ (k : ℕ). IsLineOf b.journal u k false) s (row_line u place f))
  own_line u n (outcome.Packed place limit) f s = (false, subst (λ (k : ℕ). IsLineOf b.journal u k false) s (pack_line u place limit f))
  own_line u n (outcome.NotBetter base) f s = absurd s
  own_line u n (outcome.Stuck base round) f s = absurd s
  own_line u n (outcome.Stale base is) f s = absurd s
  own_line u n (outcome.Taken i j) f s = absurd s
  own_line u n (outcome.NoRise held given) f s = absurd s
  own_line u n outcome.NoMemory f s = absurd s

  -- two turns that made one entry are one
  one_turn : (u v n : ℕ) (one other : Outcome) → OwnFits u one → OwnFits v other → StandsAt one n → StandsAt other n → u ≡ v
  one_turn u v n one other f g s t = by_lines (own_line u n one f s) (own_line v n other g t)
    where
      by_lines : (step : Bool) × IsLineOf b.journal u n step → (step : Bool) × IsLineOf b.journal v n step → u ≡ v
      by_lines (x, X) (y, Y) = sym X.by_turn ∙ (ap turn_of (same X.line Y.line (sym X.there ∙ Y.there)) ∙ Y.by_turn)

  inside : (u n : ℕ) (step : Bool) → IsLineOf b.journal u n step → n < entries
  inside u n step L = let w = slice_get_within (lines_of b.journal) n L.line L.there in let l = length-lines b.journal in omega (arith, w, l)

  -- what an outcome counts, where each place counts so much
  abbrev worth : (ℕ → ℕ) → Outcome → ℕ → ℕ
  worth g out n = cond (stands out n) (g n) 0

  abbrev Counts : (Outcome → ℕ) → (ℕ → ℕ) → Type 0
  Counts f g = (u : ℕ) (out : Outcome) → OwnFits u out → sum_below (worth g out) entries ≡ f out

  counts : (f : Outcome → ℕ) (g : ℕ → ℕ) → ((u place saved : ℕ) → OwnFits u (outcome.Published place saved) → g place ≡ f (outcome.Published place saved))
      → ((u place : ℕ) → OwnFits u (outcome.Kept place) → g place ≡ f (outcome.Kept place))
      → ((u place limit : ℕ) → OwnFits u (outcome.Packed place limit) → g place ≡ f (outcome.Packed place limit))
      → ((out : Outcome) → made_by out ≡ 0 → f out ≡ 0) → Counts f g
  counts f g step row pack none u (outcome.Published place saved) h = below_lone place g entries (inside u place true (step_line u place saved h)) ∙ step u place saved h
  counts f g step row pack none u (outcome.Kept place) h = below_lone place g entries (inside u place false (row_line u place h)) ∙ row u place h
  counts f g step row pack none u (outcome.Packed place limit) h = below_lone place g entries (inside u place false (pack_line u place limit h)) ∙ pack u place limit h
  counts f g step row pack none u (outcome.NotBetter base) h = below_none (worth g (outcome.NotBetter base)) entries (λ k l. refl) ∙ sym (none (outcome.NotBetter base) refl)
  counts f g step row pack none u (outcome.Stuck base round) h = below_none (worth g (outcome.Stuck base round)) entries (λ k l. refl) ∙ sym (none (outcome.Stuck base round) refl)
  counts f g step row pack none u (outcome.Stale base is) h = below_none (worth g (outcome.Stale base is)) entries (λ k l. refl) ∙ sym (none (outcome.Stale base is) refl)
  counts f g step row pack none u (outcome.Taken i j) h = below_none (worth g (outcome.Taken i j)) entries (λ k l. refl) ∙ sym (none (outcome.Taken i j) refl)
  counts f g step row pack none u (outcome.NoRise held given) h = below_none (worth g (outcome.NoRise held given)) entries (λ k l. refl) ∙ sym (none (outcome.NoRise held given) refl)
  counts f g step row pack none u outcome.NoMemory h = below_none (worth g outcome.NoMemory) entries (λ k l. refl) ∙ sym (none outcome.NoMemory refl)

  abbrev one_each : ℕ → ℕ
  one_each n = 1

  made_counts : Counts made_by one_each
  made_counts = counts made_by one_each (λ u place saved h. refl) (λ u place h. refl) (λ u place limit h. refl) (λ out e. e)

  -- the total before an entry and after it
  abbrev total_at : ℕ → ℕ
  total_at n = plan_total (state_at ground b.journal n).plan

  abbrev fall_at : ℕ → ℕ
  fall_at n = total_at n - total_at (n + 1)

  improves_at : (n : ℕ) (line : law.Entry Shown) → slice_get (lines_of b.journal) n ≡ Some line → Improves (state_at ground b.journal n) line (state_at ground b.journal (n + 1))
  improves_at n line e = journals_improve Shown (λ points inputs r. IsJustifiedRow points inputs r) b.problem.points b.problem.inputs (opening_state b.opening) (lines_of b.journal) n line legal.legal e

  state_next : (start : State Shown) (lines : List (law.Entry Shown)) (n : ℕ) (line : law.Entry Shown) → slice_get lines n ≡ Some line
      → state_after b.problem.points b.problem.inputs start (take (n + 1) lines) ≡ after_entry b.problem.points b.problem.inputs (state_after b.problem.points b.problem.inputs start (take n lines)) line
  state_next start [] n line e = absurd (cc)
  state_next start (x ∷ lines) zero line e = let i = same x line e in ap (after_entry b.problem.points b.problem.inputs start) i
  state_next start (x ∷ lines) (suc n) line e =
      let i : suc n + 1 ≡ suc (n + 1) = omega arith in
      ap (λ (k : ℕ). state_after b.problem.points b.problem.inputs start (take k (x ∷ lines))) i ∙ state_next (after_entry b.problem.points b.problem.inputs start x) lines n line e

  same_plan_after : (s : State Shown) (line : law.Entry Shown) → is_plan_entry line ≡ false → (after_entry b.problem.points b.problem.inputs s line).plan ≡ s.plan
  same_plan_after s (law.Move turn edges) e = absurd (cc)
  same_plan_after s (law.Swap turn input rounds) e = absurd (cc)
  same_plan_after s (law.Row turn row) e = refl
  same_plan_after s (law.Pack turn perm) e = refl

  -- a row and an assignment leave the plan
  no_fall : (u n : ℕ) → IsLineOf b.journal u n false → fall_at n ≡ 0
  no_fall u n L =
      let s = ap (λ (s : State Shown). plan_total s.plan) (state_next (opening_state b.opening) (lines_of b.journal) n L.line L.there) in
      let k = ap plan_total (same_plan_after (state_at ground b.journal n) L.line L.step_is) in
      omega (arith, s, k)

  none_saved : (out : Outcome) → made_by out ≡ 0 → saved_by out ≡ 0
  none_saved (outcome.Published place saved) e = absurd (let z : ◌≡◌ {A = ℕ} 1 0 = e in omega (arith, z))
  none_saved (outcome.Kept place) e = refl
  none_saved (outcome.Packed place limit) e = refl
  none_saved (outcome.NotBetter base) e = refl
  none_saved (outcome.Stuck base round) e = refl
  none_saved (outcome.Stale base is) e = refl
  none_saved (outcome.Taken i j) e = refl
  none_saved (outcome.NoRise held given) e = refl
  none_saved outcome.NoMemory e = refl

  saved_counts : Counts saved_by fall_at
  saved_counts = counts saved_by fall_at (λ u place saved h. sym h.saves) (λ u place h. no_fall u place (row_line u place h)) (λ u place limit h. no_fall u place (pack_line u place limit h)) none_saved

  -- 1 where a move or a swap stands
  abbrev one_if_step : law.Entry Shown → ℕ
  one_if_step line = cond (is_plan_entry line) 1 0

  abbrev one_if_published : Outcome → ℕ
  one_if_published out = cond (is_published out) 1 0

  step_one : (u n : ℕ) (step : Bool) → IsLineOf b.journal u n step → count_at one_if_step (lines_of b.journal) n ≡ cond step 1 0
  step_one u n step L = count_there one_if_step (lines_of b.journal) n L.line L.there ∙ ap (λ (t : Bool). cond t 1 0) L.step_is

  none_published : (out : Outcome) → made_by out ≡ 0 → one_if_published out ≡ 0
  none_published (outcome.Published place saved) e = absurd (let z : ◌≡◌ {A = ℕ} 1 0 = e in omega (arith, z))
  none_published (outcome.Kept place) e = refl
  none_published (outcome.Packed place limit) e = refl
  none_published (outcome.NotBetter base) e = refl
  none_published (outcome.Stuck base round) e = refl
  none_published (outcome.Stale base is) e = refl
  none_published (outcome.Taken i j) e = refl
  none_published (outcome.NoRise held given) e = refl
  none_published outcome.NoMemory e = refl

  published_counts : Counts one_if_published (count_at one_if_step (lines_of b.journal))
  published_counts =
      counts one_if_published (count_at one_if_step (lines_of b.journal))
      (λ u place saved h. step_one u place true (step_line u place saved h)) (λ u place h. step_one u place false (row_line u place h)) (λ u place limit h. step_one u place false (pack_line u place limit h)) none_published

  -- ---- all outcomes
  module _ (outcomes : List Outcome) (fit : AllPlaced OwnFits outcomes) (made : sum_by made_by outcomes ≡ entries) where
    abbrev stands_by : ℕ → Outcome → Bool
    stands_by n out = stands out n

    -- no entry is made twice, so each is made
    made_once : (n : ℕ) → count_by (stands_by n) outcomes ≤ 1
    made_once n = one_passes (stands_by n) outcomes (λ u v one other d e s t. one_turn u v n one other (fit u one d) (fit v other e) (stands_at one n s) (stands_at other n t))

    by_places : (f : Outcome → ℕ) (g : ℕ → ℕ) → Counts f g → sum_by f outcomes ≡ sum_below (λ n. sum_by (λ out. worth g out n) outcomes) entries
    by_places f g each = sym (sum_same (λ out. sum_below (worth g out) entries) f outcomes (λ u out e. each u out (fit u out e))) ∙ exchange (worth g) outcomes entries

    each_made : (n : ℕ) → n < entries → count_by (stands_by n) outcomes ≡ 1
    each_made n l = all_ones (λ n. count_by (stands_by n) outcomes) entries made_once (sym (by_places made_by one_each made_counts) ∙ made) n l

    total_worth : (f : Outcome → ℕ) (g : ℕ → ℕ) → Counts f g → sum_by f outcomes ≡ sum_below g entries
    total_worth f g each = by_places f g each ∙ below_same (λ n. sum_by (λ out. worth g out n) outcomes) g entries (λ n l. worth_once (stands_by n) (g n) outcomes (each_made n l))

    own_entry : (n : ℕ) (x : Entry) → slice_get b.journal n ≡ Some x → (out : Outcome) × (slice_get outcomes (turn_of (line_of x)) ≡ Some out) × StandsAt out n
    own_entry n x e = by_pass (some_passes (stands_by n) outcomes (let m = each_made n (slice_get_within b.journal n x e) in omega (arith, m)))
      where
        by_pass : Passes (stands_by n) outcomes → (out : Outcome) × (slice_get outcomes (turn_of (line_of x)) ≡ Some out) × StandsAt out n
        by_pass (u, out, d, t) = by_line (own_line u n out (fit u out d) (stands_at out n t))
          where
            by_line : (step : Bool) × IsLineOf b.journal u n step → (out : Outcome) × (slice_get outcomes (turn_of (line_of x)) ≡ Some out) × StandsAt out n
            by_line (step, L) = (out, ap (slice_get outcomes) (ap turn_of (same (line_of x) L.line (sym (line_at b.journal n x e) ∙ L.there)) ∙ L.by_turn) ∙ d, stands_at out n t)

    total_falls : plan_total (now_at ground b.journal).plan + sum_by saved_by outcomes ≡ plan_total ground.plan
    total_falls =
        let w = total_worth saved_by fall_at saved_counts in
        let f = falls_by total_at fall_at entries each in
        let e = ap (λ (lines : List (law.Entry Shown)). plan_total (state_after b.problem.points b.problem.inputs (opening_state b.opening) lines).plan) (take_all entries (lines_of b.journal) (let l = length-lines b.journal in omega (arith, l))) in
        omega (arith, w, f, e)
      where
        there_is : (lines : List (law.Entry Shown)) (n : ℕ) → n < length lines → (line : law.Entry Shown) × (slice_get lines n ≡ Some line)
        there_is [] n l = absurd (omega (arith, l))
        there_is (x ∷ lines) zero l = (x, refl)
        there_is (x ∷ lines) (suc n) l = there_is lines n (omega (arith, l))

        each : (k : ℕ) → k < entries → total_at (k + 1) + fall_at k ≡ total_at k
        each k l = by_line (there_is (lines_of b.journal) k (let m = length-lines b.journal in omega (arith, l, m)))
          where
            by_line : (line : law.Entry Shown) × (slice_get (lines_of b.journal) k ≡ Some line) → total_at (k + 1) + fall_at k ≡ total_at k
            by_line (line, e) = let i = (improves_at k line e).total_kept in omega (arith, i)

    all_published : count_by is_published outcomes ≡ front (lines_of b.journal)
    all_published =
        total_worth one_if_published (count_at one_if_step (lines_of b.journal)) published_counts
        ∙ (ap (sum_below (count_at one_if_step (lines_of b.journal))) (sym (length-lines b.journal)) ∙ sum_places one_if_step (lines_of b.journal))

    steps_are : (out : Outcome) → steps_by out ≡ one_if_published out + cond (is_stale out) 1 0
    steps_are (outcome.Published place saved) = refl
    steps_are (outcome.Kept place) = refl
    steps_are (outcome.Packed place limit) = refl
    steps_are (outcome.NotBetter base) = refl
    steps_are (outcome.Stuck base round) = refl
    steps_are (outcome.Stale base is) = refl
    steps_are (outcome.Taken i j) = refl
    steps_are (outcome.NoRise held given) = refl
    steps_are outcome.NoMemory = refl

    few_late : (workers : ℕ) → sum_by steps_by outcomes ≤ workers * front (lines_of b.journal) → count_by is_stale outcomes ≤ (workers - 1) * count_by is_published outcomes
    few_late workers l = by_workers workers l (sum_add one_if_published (λ out. cond (is_stale out) 1 0) steps_by outcomes steps_are) all_published
      where
        by_workers : (workers : ℕ) → sum_by steps_by outcomes ≤ workers * front (lines_of b.journal) → sum_by steps_by outcomes ≡ count_by is_published outcomes + count_by is_stale outcomes → count_by is_published outcomes ≡ front (lines_of b.journal)
            → count_by is_stale outcomes ≤ (workers - 1) * count_by is_published outcomes
        by_workers zero l s p = let z : zero * front (lines_of b.journal) ≡ 0 = omega arith in omega (arith, l, s, z)
        by_workers (suc w) l s p =
            let m : suc w * front (lines_of b.journal) ≡ front (lines_of b.journal) + w * front (lines_of b.journal) = omega arith in
            let less : suc w - 1 ≡ w = omega arith in
            let e : (suc w - 1) * count_by is_published outcomes ≡ w * front (lines_of b.journal) = ap₂ ◌*◌ less p in
            omega (arith, l, s, p, m, e)

    are_turns : (workers : ℕ) → sum_by steps_by outcomes ≤ workers * front (lines_of b.journal) → AreTurnsOfWorkers workers limits frame ground b.journal outcomes
    are_turns workers l = record {
      turns = record {
        fit = fit;
        made = made;
        owned = own_entry;
        once = λ u v n one other d e s t. one_turn u v n one other (fit u one d) (fit v other e) s t;
        saved = total_falls;
      };
      published = all_published;
      few = few_late workers l;
    }

once_most : (n x : ℕ) → once_below n x ≤ 1
once_most n x = grind (arith, nat_tests)

pub workers_leave_turns : (workers : ℕ) (limits : Limits) (frame : HeldFrame) (b : HeldBook) (drawn : ℕ) (seats : List SeatView) (passes : List (PassView Entry HeldPlan)) (parts : List (List Taken))
    → IsBook (IsJustifiedRow b.problem.points b.problem.inputs) b.problem.points b.problem.inputs (book_of b) → length passes ≡ workers → HaveTaken limits frame (ground_of b) seats passes parts → EachOnceBelow drawn seats
    → All (λ (p : PassView Entry HeldPlan). IsPrefix p.seen b.journal) passes → length b.journal ≡ sum_by (λ (p : PassView Entry HeldPlan). p.made) passes
    → AreTurnsOfWorkers workers limits frame (ground_of b) b.journal (filled (replicate (turns_of (order_of limits) b.problem.inputs) outcome.NoMemory) (all_taken parts))
workers_leave_turns workers limits frame b drawn seats passes parts book count have once seen made =
    are_turns limits frame b book (filled blank (all_taken parts)) fit all workers
    (let s = summed steps_by refl in let l = all_steps limits frame (ground_of b) b.journal seats passes parts have seen in let c = ap (λ (n : ℕ). n * front (lines_of b.journal)) count in omega (arith, s, l, c))
  where
    blank : List Outcome
    blank = replicate (turns_of (order_of limits) b.problem.inputs) outcome.NoMemory

    long : length blank ≡ turns_of (order_of limits) b.problem.inputs
    long = length-replicate _ _

    within : All (λ (t : Taken). t.turn < length blank) (all_taken parts)
    within = subst (λ (n : ℕ). All (λ (t : Taken). t.turn < n) (all_taken parts)) (sym long) (turns_below limits frame (ground_of b) seats passes parts have)

    at_most : (x : ℕ) → times x (turns_in (all_taken parts)) ≤ 1
    at_most x = let d = drawn_once limits frame (ground_of b) x seats passes parts have in let o = once x in let m = once_most drawn x in omega (arith, d, o, m)

    fit : (u : ℕ) (out : Outcome) → slice_get (filled blank (all_taken parts)) u ≡ Some out → Fits limits (ground_of b) frame u b.journal out
    fit = filled_all (λ u out. Fits limits (ground_of b) frame u b.journal out) blank (all_taken parts) (λ u out e. subst (λ (o : Outcome). Fits limits (ground_of b) frame u b.journal o) (replicate_is _ outcome.NoMemory u out e) tt)
        (all_fit limits frame (ground_of b) b.journal seats passes parts have seen)

    summed : (f : Outcome → ℕ) → f outcome.NoMemory ≡ 0 → sum_by f (filled blank (all_taken parts)) ≡ sum_by (λ (t : Taken). f t.outcome) (all_taken parts)
    summed f e =
        let s = sum_filled f e blank (all_taken parts) within at_most (λ x l. replicate_at _ outcome.NoMemory x (turn_within x l)) in
        let z = sum_replicate f (turns_of (order_of limits) b.problem.inputs) outcome.NoMemory e in
        omega (arith, s, z)
      where
        turn_within : (x : ℕ) → 1 ≤ times x (turns_in (all_taken parts)) → x < turns_of (order_of limits) b.problem.inputs
        turn_within x l = times_within _ (all_taken parts) (turns_below limits frame (ground_of b) seats passes parts have) x l

    all : sum_by made_by (filled blank (all_taken parts)) ≡ length b.journal
    all = summed made_by refl ∙ (all_made limits frame (ground_of b) seats passes parts have ∙ sym made)
