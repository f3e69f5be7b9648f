-- What a turn comes to fits the journal that its pass has seen.
use Rattle.std.proofs.Common.{◌≡◌, ◌≢◌, ◌∙◌, ℕ, ◌+◌, ◌-◌, ◌≤◌, Bool, true, false, Some, Result, Ok, Err, IfOk, IfErr, OnOk, OnErr, List, [], ◌∷◌, ◌++◌, length, take, filter, refl, sym, ap, ap₂, subst, arith, length-append}
use Rattle.std.specs.Prelude.{sum, slice_get}
use Rattle.std.specs.Bool.{OnTrue}
use native.Mathlib.Decide.{ℕ_discrete}
use Rattle.std.proofs.lemmas.List.{map-append, take-append-le, take_all}
use Rattle.std.proofs.lemmas.List.Elements.{filter-append}
use Rattle.std.proofs.lemmas.List.Sums.{length-filter}
use Rattle.std.proofs.Math.Seq.{take-append_seam}
use mathlib.Core.List.{IsPrefix}
use Rattle.geo_orient.specs.declared.Point.{Point}
use Rattle.edge_table.specs.declared.edge.Edge.{Edge}
use Rattle.flip_cnf.specs.HeldFrames.{HeldFrame}
use Rattle.pair_rows.specs.declared.row.Row as row
use Rattle.plan_law.specs.Plans.{Plan, plan_total}
use Rattle.plan_law.specs.Books as law
use Rattle.plan_law.specs.Books.{PairRow, Move, Swap, Row, Pack, State, is_plan_entry, opening_state, after_entry, state_after, state_of, front, bound, row_of, lower_of, bound_of}
use Rattle.plan_law.specs.Jobs as jobs
use Rattle.plan_law.specs.Solving.{plan_after_all}
use Rattle.plan_law.specs.Worlds as worlds
use Rattle.plan_law.specs.Worlds.{with_entry, lower_table, replica_after, IsUnfit}
use Rattle.plan_core.specs.HeldPlans.{HeldPlan}
use Rattle.book_core.specs.declared.entry.Entry.{Entry}
use Rattle.book_core.specs.declared.entry.Entry.TheVariants as entry
use Rattle.book_core.specs.declared.refusal.Accepted.{Accepted}
use Rattle.book_core.specs.declared.refusal.Refusal.{Refusal}
use Rattle.book_core.specs.declared.refusal.Refusal.TheVariants as refusal
use Rattle.book_core.specs.Entries.{Shown, line_of, lines_of}
use Rattle.book_core.specs.HeldBooks.{HeldBook, ground_of, now_of, with_line, Accepts, Refuses, Unfit}
use Rattle.book_core.specs.HeldReplicas.{HeldReplica}
use Rattle.book_core.proofs.Tables.{length_table}
use Rattle.worker_pool.specs.declared.limits.Limits.{Limits}
use Rattle.worker_pool.specs.declared.outcome.Outcome.{Outcome}
use Rattle.worker_pool.specs.declared.outcome.Outcome.TheVariants as outcome
use Rattle.worker_pool.specs.Outcomes.{state_at, plan_at, IsBestAt, job_at, answer_on, FindsNone, Sticks, IsOwnStep, IsLateStep, IsOwnRow, IsOwnPack, IsNoRise, Fits, made_by, steps_by}
use Rattle.vcell.specs.Passes.{LockView, PassView, IsPassOf}
use Rattle.worker_pool.specs.Turns.{IsReplicaAt, IsLegalBook, IsAnswered, IsPublished, IsTurn, taken, kind_of, outcome_for, now_at}
use Rattle.worker_pool.specs.Works.{ground_for, table_at, IsAnswerTo, IsWork}
use Rattle.worker_pool.specs.declared.work.Work.TheVariants.{Offers, Ends}
use Rattle.worker_pool.proofs.Best.{best_of}
use Rattle.worker_pool.proofs.Prefixes.{same_prefix, prefix_on}
use Rattle.worker_pool.proofs.Replicas.{length-lines, prefix_shorter, first_lines, replica_later}

-- ---- plans by the moves and swaps of a journal
module _ (points : List Point) (inputs : List (List Edge)) where
  pub plan_by_steps : (s : State Shown) (lines : List (law.Entry Shown)) → (state_after points inputs s lines).plan ≡ plan_after_all points inputs s.plan (filter is_plan_entry lines)
  plan_by_steps s [] = refl
  plan_by_steps s (Move turn edges ∷ lines) = plan_by_steps (after_entry points inputs s (Move turn edges)) lines
  plan_by_steps s (Swap turn input rounds ∷ lines) = plan_by_steps (after_entry points inputs s (Swap turn input rounds)) lines
  plan_by_steps s (Row turn row ∷ lines) = plan_by_steps (after_entry points inputs s (Row turn row)) lines
  plan_by_steps s (Pack turn perm ∷ lines) = plan_by_steps (after_entry points inputs s (Pack turn perm)) lines

abbrev pub steps_of : List Entry → List (law.Entry Shown)
steps_of journal = filter is_plan_entry (lines_of journal)

pub steps_grow : (seen rest : List Entry) → steps_of (seen ++ rest) ≡ steps_of seen ++ steps_of rest
steps_grow seen rest = ap (filter is_plan_entry) (map-append line_of seen rest) ∙ filter-append is_plan_entry (lines_of seen) (lines_of rest)

pub front_is : (journal : List Entry) → length (steps_of journal) ≡ front (lines_of journal)
front_is journal = length-filter is_plan_entry (lines_of journal)

-- the plan after as many moves and swaps as were seen is the one after all that was seen
pub at_base : (ground : HeldPlan) (seen journal : List Entry) → IsPrefix seen journal → plan_at ground journal (front (lines_of seen)) ≡ (now_at ground seen).plan
at_base ground seen journal (rest, e) =
    let n : ℕ = front (lines_of seen) in
    ap (plan_after_all ground.problem.points ground.problem.inputs ground.plan) (ap (λ (j : List Entry). take n (steps_of j)) (sym e) ∙ (ap (take n) (steps_grow seen rest) ∙ (take-append-le n (steps_of seen) (steps_of rest) (let f = front_is seen in omega (arith, f)) ∙ take_all n (steps_of seen) (let f = front_is seen in omega (arith, f)))))
    ∙ sym (plan_by_steps ground.problem.points ground.problem.inputs (opening_state ground.plan) (lines_of seen))

pub front_grows : (seen journal : List Entry) → IsPrefix seen journal → front (lines_of seen) ≤ front (lines_of journal)
front_grows seen journal (rest, e) =
    let a = ap (λ (j : List Entry). length (steps_of j)) e in
    let b = ap (λ (l : List (law.Entry Shown)). length l) (steps_grow seen rest) in
    omega (arith, a, b, length-append (steps_of seen) (steps_of rest), front_is seen, front_is journal)

-- a journal that begins with another and has as many moves and swaps has its plan
pub same_plan : (ground : HeldPlan) (seen journal : List Entry) → IsPrefix seen journal → front (lines_of seen) ≡ front (lines_of journal) → (now_at ground seen).plan ≡ (now_at ground journal).plan
same_plan ground seen journal p e = sym (at_base ground seen journal p) ∙ (ap (plan_at ground journal) e ∙ at_base ground journal journal (same_prefix journal journal refl))

module _ {X : Type 0} where
  pub last_there : (xs : List X) (y : X) (n : ℕ) → n ≡ length xs → slice_get (xs ++ y ∷ []) n ≡ Some y
  last_there xs y n e = ap (slice_get (xs ++ y ∷ [])) e ∙ seam xs
    where
      seam : (xs : List X) → slice_get (xs ++ y ∷ []) (length xs) ≡ Some y
      seam [] = refl
      seam (x ∷ xs) = seam xs

-- ---- the book found, and an entry offered to it
module _ (limits : Limits) (frame : HeldFrame) (u : ℕ) (b : HeldBook) (seen : List Entry) (begins : IsPrefix seen b.journal) where
  abbrev G : HeldPlan
  G = ground_of b

  abbrev base : ℕ
  base = front (lines_of seen)

  pub grown : (x : Entry) → lines_of (b.journal ++ x ∷ []) ≡ lines_of b.journal ++ line_of x ∷ []
  grown x = map-append line_of b.journal (x ∷ [])

  pub before_last : (x : Entry) (n : ℕ) → n ≡ length (lines_of b.journal) → state_at G (b.journal ++ x ∷ []) n ≡ now_of b
  before_last x n e =
      ap (state_after b.problem.points b.problem.inputs (opening_state b.opening)) (ap (take n) (grown x) ∙ (ap (λ (k : ℕ). take k (lines_of b.journal ++ line_of x ∷ [])) e ∙ take-append_seam (lines_of b.journal) (line_of x ∷ [])))

  pub with_last : (x : Entry) (n : ℕ) → n ≡ length (lines_of b.journal) → take (n + 1) (lines_of (b.journal ++ x ∷ [])) ≡ lines_of (b.journal ++ x ∷ [])
  with_last x n e = take_all (n + 1) (lines_of (b.journal ++ x ∷ [])) (let l = ap (λ (j : List (law.Entry Shown)). length j) (grown x) in omega (arith, l, e, length-append (lines_of b.journal) (line_of x ∷ [])))

  own_step : (x : Entry) (place saved : ℕ) → is_plan_entry (line_of x) ≡ true → Accepts b base x place saved → answer_on limits G u (now_at G seen).plan ≡ Some (line_of x) → IsOwnStep limits G u (b.journal ++ x ∷ []) place saved
  own_step x place saved step A h = record {
    line = line_of x;
    there = ap (λ (l : List (law.Entry Shown)). slice_get l place) (grown x) ∙ last_there (lines_of b.journal) (line_of x) place A.at_end;
    answered = ap (answer_on limits G u) (ap (λ (s : State Shown). s.plan) (before_last x place A.at_end) ∙ sym (same_plan G seen b.journal begins fresh)) ∙ h;
    saves = A.saves ∙ ap₂ ◌-◌ (ap (λ (s : State Shown). plan_total s.plan) (sym (before_last x place A.at_end))) (ap (λ (l : List (law.Entry Shown)). plan_total (state_after b.problem.points b.problem.inputs (opening_state b.opening) l).plan) (sym (with_last x place A.at_end ∙ grown x)));
  }
    where
      fresh : front (lines_of seen) ≡ front (lines_of b.journal)
      fresh = let n : ¬ (front (lines_of seen) ≢ front (lines_of b.journal)) = (λ m. A.fresh (step, m)) in by_place (front (lines_of seen)) (front (lines_of b.journal)) n
        where
          by_place : (m n : ℕ) → ¬ (m ≢ n) → m ≡ n
          by_place m n h = by_dec (ℕ_discrete m n)
            where
              by_dec : Dec (m ≡ n) → m ≡ n
              by_dec (yes e) = e
              by_dec (no k) = absurd (h k)

  own_row : (turn place saved : ℕ) (r : row.Row) → Accepts b base (entry.Row turn r) place saved → IsAnswerTo limits frame u b.problem (now_at G seen).plan (table_at (now_at G seen)) base (entry.Row turn r)
      → IsOwnRow limits G frame u (b.journal ++ entry.Row turn r ∷ []) place
  own_row turn place saved r A h = record {
    found = r;
    there = subst (λ (t : ℕ). slice_get (b.journal ++ entry.Row turn r ∷ []) place ≡ Some (entry.Row t r)) h.0 (last_there b.journal (entry.Row turn r) place (A.at_end ∙ length-lines b.journal));
    of_job = h.1;
    earned = h.2;
  }

  own_pack : (turn place saved limit : ℕ) (perm : List ℕ) → Accepts b base (entry.Pack turn perm) place saved → IsAnswerTo limits frame u b.problem (now_at G seen).plan (table_at (now_at G seen)) base (entry.Pack turn perm)
      → limit ≡ bound (now_at G (b.journal ++ entry.Pack turn perm ∷ [])) → IsOwnPack limits G u (b.journal ++ entry.Pack turn perm ∷ []) place limit
  own_pack turn place saved limit perm A h l = record {
    of_job = h.1;
    perm = perm;
    there = subst (λ (t : ℕ). slice_get (b.journal ++ entry.Pack turn perm ∷ []) place ≡ Some (entry.Pack t perm)) h.0 (last_there b.journal (entry.Pack turn perm) place (A.at_end ∙ length-lines b.journal));
    limit_is = l ∙ ap (λ (ls : List (law.Entry Shown)). bound (state_after b.problem.points b.problem.inputs (opening_state b.opening) ls)) (sym (with_last (entry.Pack turn perm) place A.at_end));
  }

  late_step : (x : Entry) (said is : ℕ) → Refuses b base x (refusal.Stale said is) → answer_on limits G u (now_at G seen).plan ≡ Some (line_of x) → IsLateStep limits G u b.journal said is
  late_step x said is h k = record {
    line = line_of x;
    answered = ap (answer_on limits G u) (ap (plan_at G b.journal) h.1 ∙ at_base G seen b.journal begins) ∙ k;
    later = let g = front_grows seen b.journal begins in let n = h.0.1 in omega (arith, g, n, h.1, h.2);
    no_later = let e = h.2 in omega (arith, e);
  }

  pub whole : state_at G b.journal (length b.journal) ≡ now_of b
  whole = ap (state_after b.problem.points b.problem.inputs (opening_state b.opening)) (take_all (length b.journal) (lines_of b.journal) (let l = length-lines b.journal in omega (arith, l)))

  no_rise : (turn held given : ℕ) (perm : List ℕ) → Unfit b (entry.Pack turn perm) (worlds.NoRise held given) → IsAnswerTo limits frame u b.problem (now_at G seen).plan (table_at (now_at G seen)) base (entry.Pack turn perm)
      → IsNoRise limits G u b.journal held given
  no_rise turn held given perm f h = record {
    of_job = h.1;
    entries = length b.journal;
    seen = length seen;
    some = omega arith;
    fewer = prefix_shorter seen b.journal begins;
    perm = perm;
    best = subst (λ (s : State Shown). IsBestAt s perm) (sym seen_first) (best_of (now_at G seen).plan.weights (now_at G seen).rows perm h.2);
    held_is = f.0 ∙ ap bound (sym whole);
    given_is = f.1 ∙ ap (λ (s : State Shown). bound_of s perm) (sym whole);
    no_more = f.2;
  }
    where
      seen_first : state_at G b.journal (length seen) ≡ now_at G seen
      seen_first = ap (state_after b.problem.points b.problem.inputs (opening_state b.opening)) (first_lines seen b.journal (length seen) begins (omega arith) ∙ take_all (length seen) (lines_of seen) (let l = length-lines seen in omega (arith, l)))

  abbrev IsAnswer : Entry → Type 0
  IsAnswer x = IsAnswerTo limits frame u b.problem (now_at G seen).plan (table_at (now_at G seen)) base x

  abbrev Good : Entry → Result Accepted Refusal → ℕ → List Entry → Type 0
  Good x answer limit after =
      Fits limits G frame u after (outcome_for (kind_of x) answer limit) × (taken answer ≡ made_by (outcome_for (kind_of x) answer limit)) × (base + steps_by (outcome_for (kind_of x) answer limit) ≤ front (lines_of after))

  step_more : (x : Entry) → length (steps_of (x ∷ [])) ≡ 1 → base + 1 ≤ front (lines_of (b.journal ++ x ∷ []))
  step_more x one =
      let g = front_grows seen b.journal begins in
      let a = ap (λ (l : List (law.Entry Shown)). length l) (steps_grow b.journal (x ∷ [])) in
      omega (arith, g, a, one, length-append (steps_of b.journal) (steps_of (x ∷ [])), front_is b.journal, front_is (b.journal ++ x ∷ []))

  no_step : (after : List Entry) → IsPrefix seen after → base + 0 ≤ front (lines_of after)
  no_step after p = let g = front_grows seen after p in omega (arith, g)

  more : (x : Entry) → IsPrefix seen (b.journal ++ x ∷ [])
  more x = prefix_on seen b.journal (b.journal ++ x ∷ []) begins (x ∷ [], refl)

  fits_ok : (x : Entry) (a : Accepted) (limit : ℕ) → Accepts b base x a.place a.saved → limit ≡ bound (now_at G (b.journal ++ x ∷ [])) → IsAnswer x → Good x (Ok a) limit (b.journal ++ x ∷ [])
  fits_ok (entry.Move turn edges) a limit A l h = (own_step (entry.Move turn edges) a.place a.saved refl A h, refl, step_more (entry.Move turn edges) refl)
  fits_ok (entry.Swap turn input rounds) a limit A l h = (own_step (entry.Swap turn input rounds) a.place a.saved refl A h, refl, step_more (entry.Swap turn input rounds) refl)
  fits_ok (entry.Row turn r) a limit A l h = (own_row turn a.place a.saved r A h, refl, no_step (b.journal ++ entry.Row turn r ∷ []) (more (entry.Row turn r)))
  fits_ok (entry.Pack turn perm) a limit A l h = (own_pack turn a.place a.saved limit perm A h l, refl, no_step (b.journal ++ entry.Pack turn perm ∷ []) (more (entry.Pack turn perm)))

  late_front : (x : Entry) (said is : ℕ) → Refuses b base x (refusal.Stale said is) → base + 1 ≤ front (lines_of b.journal)
  late_front x said is h = let g = front_grows seen b.journal begins in let n = h.0.1 in omega (arith, g, n)

  fits_stale : (x : Entry) (said is limit : ℕ) → Refuses b base x (refusal.Stale said is) → IsAnswer x → Good x (Err (refusal.Stale said is)) limit b.journal
  fits_stale (entry.Move turn edges) said is limit r h = (late_step (entry.Move turn edges) said is r h, refl, late_front (entry.Move turn edges) said is r)
  fits_stale (entry.Swap turn input rounds) said is limit r h = (late_step (entry.Swap turn input rounds) said is r h, refl, late_front (entry.Swap turn input rounds) said is r)
  fits_stale (entry.Row turn x) said is limit r h = absurd (let q : false ≡ true = r.0.0 in cc)
  fits_stale (entry.Pack turn perm) said is limit r h = absurd (let q : false ≡ true = r.0.0 in cc)

  fits_taken : (x : Entry) (i j limit : ℕ) → Refuses b base x (refusal.Taken i j) → IsAnswer x → Good x (Err (refusal.Taken i j)) limit b.journal
  fits_taken (entry.Move turn edges) i j limit r h = absurd r
  fits_taken (entry.Swap turn input rounds) i j limit r h = absurd r
  fits_taken (entry.Row turn x) i j limit r h =
      ((h.1 ∙ ap₂ jobs.Compares (sym r.1) (sym r.2), λ e. r.0 (ap₂ (row_of (now_of b).rows) (sym r.1) (sym r.2) ∙ (ap (λ (s : State Shown). row_of s.rows i j) (sym whole) ∙ e))), refl, no_step b.journal begins)
  fits_taken (entry.Pack turn perm) i j limit r h = absurd r

  fits_no_rise : (x : Entry) (held given limit : ℕ) → Refuses b base x (refusal.NoRise held given) → IsAnswer x → Good x (Err (refusal.NoRise held given)) limit b.journal
  fits_no_rise (entry.Move turn edges) held given limit r h = absurd r
  fits_no_rise (entry.Swap turn input rounds) held given limit r h = absurd r
  fits_no_rise (entry.Row turn x) held given limit r h = absurd r
  fits_no_rise (entry.Pack turn perm) held given limit r h = (no_rise turn held given perm r h, refl, no_step b.journal begins)

  fits_err : (x : Entry) (why : Refusal) (limit : ℕ) → Refuses b base x why → IsAnswer x → Good x (Err why) limit b.journal
  fits_err x (refusal.Stale said is) limit r h = fits_stale x said is limit r h
  fits_err x (refusal.BadMove place) limit r h = (tt, refl, no_step b.journal begins)
  fits_err x (refusal.BadSwap fault) limit r h = (tt, refl, no_step b.journal begins)
  fits_err x (refusal.NotBetter held given) limit r h = (tt, refl, no_step b.journal begins)
  fits_err x (refusal.Taken i j) limit r h = fits_taken x i j limit r h
  fits_err x (refusal.NoRise held given) limit r h = fits_no_rise x held given limit r h
  fits_err x refusal.OutOfMemory limit r h = (tt, refl, no_step b.journal begins)

  pub fits_answer : (x : Entry) (answer : Result Accepted Refusal) (limit : ℕ) (after : List Entry) → IsAnswered b base x answer after → limit ≡ bound (now_at G after) → IsAnswer x → Good x answer limit after
  fits_answer x (Ok a) limit after (A, e) l h = subst (Good x (Ok a) limit) (sym e) (fits_ok x a limit A (l ∙ ap (λ (j : List Entry). bound (now_at G j)) e) h)
  fits_answer x (Err why) limit after (r, e) l h = subst (Good x (Err why) limit) (sym e) (fits_err x why limit r h)

-- ---- a turn at a lock
module _ (limits : Limits) (frame : HeldFrame) (u : ℕ) (ground : HeldPlan) (seen : List Entry) (r : HeldReplica) (R : IsReplicaAt ground seen r) (all : r.state.seen ≡ length seen) where
  abbrev Newest : worlds.Replica
  Newest = replica_after {E = Shown} ground.problem.points ground.problem.inputs ground.plan (lines_of seen)

  newest : r.state ≡ Newest
  newest = R.state ∙ ap (replica_after {E = Shown} ground.problem.points ground.problem.inputs ground.plan) (take_all r.state.seen (lines_of seen) (let l = length-lines seen in omega (arith, l, all)))

  pub base_is : r.state.front ≡ front (lines_of seen)
  base_is = ap (λ (s : worlds.Replica). s.front) newest

  -- what was worked out on the replica, on a book with this ground
  pub answer_found : (b : HeldBook) → ground_of b ≡ ground → (x : Entry) → IsAnswerTo limits frame u r.problem r.state.plan r.state.table r.state.front x
      → IsAnswerTo limits frame u b.problem (now_at (ground_of b) seen).plan (table_at (now_at (ground_of b) seen)) (front (lines_of seen)) x
  answer_found b g x h =
      let h1 = subst (λ p. IsAnswerTo limits frame u p r.state.plan r.state.table r.state.front x) R.problem h in
      let h2 = subst (λ (s : worlds.Replica). IsAnswerTo limits frame u ground.problem s.plan s.table s.front x) newest h1 in
      subst (λ (g : HeldPlan). IsAnswerTo limits frame u g.problem (now_at g seen).plan (table_at (now_at g seen)) (front (lines_of seen)) x) (sym g) h2

  pub fits_offer : (x : Entry) (answer : Result Accepted Refusal) (limit : ℕ) (after : List Entry) → IsPublished ground seen r.state.front x answer limit after → IsAnswerTo limits frame u r.problem r.state.plan r.state.table r.state.front x
      → Fits limits ground frame u after (outcome_for (kind_of x) answer limit) × (taken answer ≡ made_by (outcome_for (kind_of x) answer limit)) × (front (lines_of seen) + steps_by (outcome_for (kind_of x) answer limit) ≤ front (lines_of after))
  fits_offer x answer limit after P h =
      let l = subst (λ (g : HeldPlan). limit ≡ bound (now_at g after)) (sym P.of_ground) P.limit_is in
      let a = subst (λ (n : ℕ). IsAnswered P.found n x answer after) base_is P.answered in
      let good = fits_answer limits frame u P.found seen P.begins x answer limit after a l (answer_found P.found P.of_ground x h) in
      (subst (λ (g : HeldPlan). Fits limits g frame u after (outcome_for (kind_of x) answer limit)) P.of_ground good.0, good.1, good.2)

  finds_on : (plan : Plan) (j : jobs.Job) → FindsNone limits (ground_for ground.problem plan) plan j → FindsNone limits ground plan j
  finds_on plan (jobs.Walks p) h = h
  finds_on plan (jobs.Descends p t) h = h
  finds_on plan (jobs.Compares i j) h = h
  finds_on plan jobs.Packs h = h

  sticks_on : (plan : Plan) (round : ℕ) (j : jobs.Job) → Sticks (ground_for ground.problem plan) plan round j → Sticks ground plan round j
  sticks_on plan round (jobs.Walks p) h = h
  sticks_on plan round (jobs.Descends p t) h = h
  sticks_on plan round (jobs.Compares i j) h = h
  sticks_on plan round jobs.Packs h = h

  at_front : (n : ℕ) → n ≡ front (lines_of seen) → (now_at ground seen).plan ≡ plan_at ground seen n
  at_front n e = sym (ap (plan_at ground seen) e ∙ at_base ground seen seen (same_prefix seen seen refl))

  seen_front : (n : ℕ) → n ≡ front (lines_of seen) → n ≤ front (lines_of seen)
  seen_front n e = omega (arith, e)

  ended : (out : Outcome) → IsWork limits frame u ground.problem Newest.plan Newest.table Newest.front (Ends out) → Fits limits ground frame u seen out × (made_by out ≡ 0) × (steps_by out ≡ 0)
  ended (outcome.NotBetter n) (e, h) = ((seen_front n e, subst (λ (p : Plan). FindsNone limits ground p (job_at limits ground u)) (at_front n e) (finds_on Newest.plan (job_at limits ground u) h)), refl, refl)
  ended (outcome.Stuck n round) (e, h) = ((seen_front n e, subst (λ (p : Plan). Sticks ground p round (job_at limits ground u)) (at_front n e) (sticks_on Newest.plan round (job_at limits ground u) h)), refl, refl)
  ended (outcome.Published place saved) h = absurd h
  ended (outcome.Stale n front) h = absurd h
  ended (outcome.Kept place) h = absurd h
  ended (outcome.Taken i j) h = absurd h
  ended (outcome.Packed place limit) h = absurd h
  ended (outcome.NoRise held given) h = absurd h
  ended outcome.NoMemory h = absurd h

  pub fits_end : (out : Outcome) → IsWork limits frame u r.problem r.state.plan r.state.table r.state.front (Ends out) → Fits limits ground frame u seen out × (made_by out ≡ 0) × (steps_by out ≡ 0)
  fits_end out h =
      let h1 = subst (λ p. IsWork limits frame u p r.state.plan r.state.table r.state.front (Ends out)) R.problem h in
      ended out (subst (λ (s : worlds.Replica). IsWork limits frame u ground.problem s.plan s.table s.front (Ends out)) newest h1)

-- the table of a replica has a row for each copy
pub table_long : (ground : HeldPlan) (seen : List Entry) (r : HeldReplica) → IsReplicaAt ground seen r → length r.state.table ≡ sum r.state.plan.weights
table_long ground seen r R =
    let now : State Shown = state_after ground.problem.points ground.problem.inputs (opening_state {E = Shown} ground.plan) (take r.state.seen (lines_of seen)) in
    ap (λ (s : worlds.Replica). length s.table) R.state ∙ (length_table now.plan.weights now.rows ∙ ap (λ (s : worlds.Replica). sum s.plan.weights) (sym R.state))

-- what an offer leaves
pub published_of : (ground : HeldPlan) (before after : List Entry) (old new : HeldBook) (n : ℕ) (x : Entry) (answer : Result Accepted Refusal) (limit : ℕ) → ground_of old ≡ ground → IsLegalBook old → IsPrefix before old.journal
    → IfOk answer (λ a. Accepts old n x a.place a.saved) → IfErr answer (Refuses old n x) → OnOk answer (new ≡ with_line old x) → OnErr answer (new ≡ old) → limit ≡ bound (now_of new) → after ≡ new.journal → IsPublished ground before n x answer limit after
published_of ground before after old new n x (Ok a) limit g legal p ok err grown kept l e = record {
  found = old;
  of_ground = g;
  legal = legal;
  begins = p;
  answered = (ok, e ∙ ap (λ (b : HeldBook). b.journal) grown);
  limit_is = l ∙ ap₂ (λ (q : HeldPlan) (j : List Entry). bound (now_at q j)) (ap ground_of grown ∙ g) (sym e);
}
published_of ground before after old new n x (Err why) limit g legal p ok err grown kept l e = record {
  found = old;
  of_ground = g;
  legal = legal;
  begins = p;
  answered = (err, e ∙ ap (λ (b : HeldBook). b.journal) kept);
  limit_is = l ∙ ap₂ (λ (q : HeldPlan) (j : List Entry). bound (now_at q j)) (ap ground_of kept ∙ g) (sym e);
}

-- ---- the turn as a whole
pub on_true : (b : Bool) (P : Type 0) → b ≡ true → OnTrue b P → P
on_true b P e h = subst (λ (b : Bool). OnTrue b P) e h

pub ok_is : {X E : Type 0} (res : Result X E) (P : X → Type 0) (x : X) → res ≡ Ok x → IfOk res P → P x
ok_is res P x e h = subst (λ (res : Result _ _). IfOk res P) e h

module _ (limits : Limits) (frame : HeldFrame) (u : ℕ) (lock : LockView HeldPlan) (before mid : PassView Entry HeldPlan) (r : HeldReplica) (begins : IsPrefix before.seen mid.seen) (R : IsReplicaAt lock.ground mid.seen r) (kept : mid.made ≡ before.made) (caught : Bool)
    (whole : OnTrue caught (r.state.seen ≡ length mid.seen)) where
  pub turn_offers : (after : PassView Entry HeldPlan) (n : ℕ) (x : Entry) (answer : Result Accepted Refusal) (limit : ℕ) (out : Outcome) → caught ≡ true → IsPassOf lock after → IsPrefix mid.seen after.seen → after.made ≡ mid.made + taken answer
      → IsPublished lock.ground mid.seen n x answer limit after.seen → n ≡ r.state.front → IsWork limits frame u r.problem r.state.plan r.state.table r.state.front (Offers x) → out ≡ outcome_for (kind_of x) answer limit → IsTurn limits frame u lock before after r out
  turn_offers after n x answer limit out right own p made P e w is = subst (IsTurn limits frame u lock before after r) (sym is) (record {
    own = own;
    grows = prefix_on before.seen mid.seen after.seen begins p;
    caught = replica_later lock.ground mid.seen after.seen r p R;
    whole = λ some. long;
    fits = good.0;
    made = let m = good.1 in omega (arith, made, kept, m);
    steps = let m = good.2 in let g = front_grows before.seen mid.seen begins in omega (arith, m, g);
  })
    where
      all : r.state.seen ≡ length mid.seen
      all = on_true caught (r.state.seen ≡ length mid.seen) right whole

      long : length before.seen ≤ r.state.seen
      long = let l = prefix_shorter before.seen mid.seen begins in omega (arith, l, all)

      good : Fits limits lock.ground frame u after.seen (outcome_for (kind_of x) answer limit) × (taken answer ≡ made_by (outcome_for (kind_of x) answer limit)) × (front (lines_of mid.seen) + steps_by (outcome_for (kind_of x) answer limit) ≤ front (lines_of after.seen))
      good = fits_offer limits frame u lock.ground mid.seen r R all x answer limit after.seen (subst (λ (k : ℕ). IsPublished lock.ground mid.seen k x answer limit after.seen) e P) w.1

  pub turn_ends : (out : Outcome) → caught ≡ true → IsPassOf lock mid → IsWork limits frame u r.problem r.state.plan r.state.table r.state.front (Ends out) → IsTurn limits frame u lock before mid r out
  turn_ends out right own w = record {
    own = own;
    grows = begins;
    caught = R;
    whole = λ some. long;
    fits = good.0;
    made = let m = good.1 in omega (arith, kept, m);
    steps = let m = good.2 in let g = front_grows before.seen mid.seen begins in omega (arith, m, g);
  }
    where
      all : r.state.seen ≡ length mid.seen
      all = on_true caught (r.state.seen ≡ length mid.seen) right whole

      long : length before.seen ≤ r.state.seen
      long = let l = prefix_shorter before.seen mid.seen begins in omega (arith, l, all)

      good : Fits limits lock.ground frame u mid.seen out × (made_by out ≡ 0) × (steps_by out ≡ 0)
      good = fits_end limits frame u lock.ground mid.seen r R all out w

  pub turn_wants : IsPassOf lock mid → IsTurn limits frame u lock before mid r outcome.NoMemory
  turn_wants own = record {
    own = own;
    grows = begins;
    caught = R;
    whole = λ some. absurd (some refl);
    fits = tt;
    made = omega (arith, kept);
    steps = let g = front_grows before.seen mid.seen begins in omega (arith, g);
  }
