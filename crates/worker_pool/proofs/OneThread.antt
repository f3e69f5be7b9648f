-- A turn on a book in the hands of one thread.
use Rattle.std.proofs.Common.{◌≡◌, ◌∙◌, ℕ, ◌+◌, ◌≤◌, Result, Ok, Err, IfOk, IfErr, OnOk, OnErr, List, [], ◌∷◌, ◌++◌, length, take, refl, sym, ap, subst, arith, length-append}
use Rattle.std.proofs.lemmas.List.{map-append, take_all}
use mathlib.Core.List.{IsPrefix}
use Rattle.geo_orient.specs.declared.Point.{Point}
use Rattle.edge_table.specs.declared.edge.Edge.{Edge}
use Rattle.flip_cnf.specs.HeldFrames.{HeldFrame}
use Rattle.plan_law.specs.Plans.{plan_total}
use Rattle.plan_law.specs.Books as law
use Rattle.plan_law.specs.Books.{State, opening_state, after_entry, state_after, state_of, bound_of, bound, front}
use Rattle.plan_law.specs.BookLaws.{Improves}
use Rattle.plan_law.specs.Worlds.{with_entry}
use Rattle.plan_law.proofs.Proved.{fit_entries_improve}
use Rattle.plan_core.specs.HeldPlans.{HeldPlan}
use Rattle.book_core.specs.declared.entry.Entry.{Entry}
use Rattle.book_core.specs.declared.entry.Entry.TheVariants as entry
use Rattle.book_core.specs.declared.refusal.Accepted.{Accepted}
use Rattle.book_core.specs.declared.refusal.Refusal.{Refusal}
use Rattle.book_core.specs.declared.refusal.Refusal.TheVariants as refusal
use Rattle.book_core.specs.Entries.{Shown, line_of, lines_of}
use Rattle.book_core.specs.HeldBooks.{HeldBook, ground_of, book_of, now_of, front_of, with_line, Accepts, Refuses}
use Rattle.book_core.specs.HeldReplicas.{seen_all}
use Rattle.worker_pool.specs.declared.limits.Limits.{Limits}
use Rattle.worker_pool.specs.declared.turn.Kind.{Kind}
use Rattle.worker_pool.specs.declared.outcome.Outcome.{Outcome}
use Rattle.worker_pool.specs.declared.outcome.Outcome.TheVariants as outcome
use Rattle.worker_pool.specs.declared.work.Work.TheVariants.{Offers, Ends}
use Rattle.worker_pool.specs.Outcomes.{state_at, IsBestAt, Fits, made_by, saved_by, steps_by}
use Rattle.worker_pool.specs.Turns.{taken, kind_of, taken_as, outcome_for, now_at}
use Rattle.worker_pool.specs.Works.{table_at, IsAnswerTo, IsWork}
use Rattle.worker_pool.specs.Runs.{IsTurnAlone, IsInOrder}
use Rattle.worker_pool.proofs.Best.{best_of}
use Rattle.worker_pool.proofs.Prefixes.{same_prefix}
use Rattle.worker_pool.proofs.Replicas.{length-lines, all_at}
use Rattle.worker_pool.proofs.Turned.{whole, before_last, fits_answer, fits_end}

-- the state after one entry more
pub state_more : (points : List Point) (inputs : List (List Edge)) (s : State Shown) (lines : List (law.Entry Shown)) (line : law.Entry Shown) → state_after points inputs s (lines ++ line ∷ []) ≡ after_entry points inputs (state_after points inputs s lines) line
state_more points inputs s [] line = refl
state_more points inputs s (x ∷ lines) line = state_more points inputs (after_entry points inputs s x) lines line

-- a book with one entry more
pub now_more : (b : HeldBook) (x : Entry) → now_of (with_line b x) ≡ after_entry b.problem.points b.problem.inputs (now_of b) (line_of x)
now_more b x = ap (state_after b.problem.points b.problem.inputs (opening_state b.opening)) (map-append line_of b.journal (x ∷ [])) ∙ state_more b.problem.points b.problem.inputs (opening_state b.opening) (lines_of b.journal) (line_of x)

module _ (limits : Limits) (frame : HeldFrame) (u : ℕ) (b : HeldBook) where
  abbrev G : HeldPlan
  G = ground_of b

  abbrev n : ℕ
  n = length b.journal

  begins : IsPrefix b.journal b.journal
  begins = same_prefix b.journal b.journal refl

  abbrev IsAnswer : Entry → Type 0
  IsAnswer x = IsAnswerTo limits frame u b.problem (now_of b).plan (table_at (now_of b)) (front_of b) x

  -- the state before the last entry
  before : (x : Entry) → state_at G (b.journal ++ x ∷ []) n ≡ now_of b
  before x = before_last limits frame u b b.journal begins x n (sym (length-lines b.journal))

  taken_in_order : (x : Entry) (place saved limit : ℕ) → place ≡ length (lines_of b.journal) → limit ≡ bound (now_of (with_line b x)) → IsAnswer x → IsInOrder G (b.journal ++ x ∷ []) n (taken_as (kind_of x) place saved limit)
  taken_in_order (entry.Move turn edges) place saved limit e l h = e ∙ length-lines b.journal
  taken_in_order (entry.Swap turn input rounds) place saved limit e l h = e ∙ length-lines b.journal
  taken_in_order (entry.Row turn r) place saved limit e l h = e ∙ length-lines b.journal
  taken_in_order (entry.Pack turn perm) place saved limit e l h = (
    e ∙ length-lines b.journal,
    (
      perm,
      subst (λ (s : State Shown). IsBestAt s perm) (sym (before (entry.Pack turn perm))) (best_of (now_of b).plan.weights (now_of b).rows perm h.2),
      l ∙ (ap bound (now_more b (entry.Pack turn perm)) ∙ ap (λ (s : State Shown). bound_of s perm) (sym (before (entry.Pack turn perm)))),
    ),
  )

  abbrev After : Entry → State Shown
  After x = after_entry b.problem.points b.problem.inputs (now_of b) (line_of x)

  taken_saves : (x : Entry) (place saved limit : ℕ) → Accepts b (front_of b) x place saved → plan_total (now_of (with_line b x)).plan + saved_by (taken_as (kind_of x) place saved limit) ≡ plan_total (now_of b).plan
  taken_saves x place saved limit A = by_kind x A (fit_entries_improve Shown b.problem.points b.problem.inputs (now_of b) (line_of x) A.fit)
    where
      total : (x : Entry) → plan_total (now_of (with_line b x)).plan ≡ plan_total (After x).plan
      total x = ap (λ (s : State Shown). plan_total s.plan) (now_more b x)

      with_it : (x : Entry) → plan_total (state_of b.problem.points b.problem.inputs (with_entry (book_of b) (line_of x))).plan ≡ plan_total (After x).plan
      with_it x = ap (λ (s : State Shown). plan_total s.plan) (state_more b.problem.points b.problem.inputs (opening_state b.opening) (lines_of b.journal) (line_of x))

      by_kind : (x : Entry) → Accepts b (front_of b) x place saved → Improves (now_of b) (line_of x) (After x) → plan_total (now_of (with_line b x)).plan + saved_by (taken_as (kind_of x) place saved limit) ≡ plan_total (now_of b).plan
      by_kind (entry.Move turn edges) A I = let t = total (entry.Move turn edges) in let w = with_it (entry.Move turn edges) in let f = I.total_falls refl in let s = A.saves in omega (arith, t, w, f, s)
      by_kind (entry.Swap turn input rounds) A I = let t = total (entry.Swap turn input rounds) in let w = with_it (entry.Swap turn input rounds) in let f = I.total_falls refl in let s = A.saves in omega (arith, t, w, f, s)
      by_kind (entry.Row turn r) A I = let t = total (entry.Row turn r) in omega (arith, t)
      by_kind (entry.Pack turn perm) A I = let t = total (entry.Pack turn perm) in omega (arith, t)

  all_now : state_at G b.journal n ≡ now_of b
  all_now = whole limits frame u b b.journal begins

  refused_no_rise : (x : Entry) (held given : ℕ) → Refuses b (front_of b) x (refusal.NoRise held given) → IsAnswer x → IsInOrder G b.journal n (outcome.NoRise held given)
  refused_no_rise (entry.Move turn edges) held given r h = absurd r
  refused_no_rise (entry.Swap turn input rounds) held given r h = absurd r
  refused_no_rise (entry.Row turn x) held given r h = absurd r
  refused_no_rise (entry.Pack turn perm) held given r h = (
    r.0 ∙ ap bound (sym all_now),
    (
      perm,
      subst (λ (s : State Shown). IsBestAt s perm) (sym all_now) (best_of (now_of b).plan.weights (now_of b).rows perm h.2),
      r.1 ∙ ap (λ (s : State Shown). bound_of s perm) (sym all_now),
    ),
  )

  refused_in_order : (k : Kind) (x : Entry) (why : Refusal) (limit : ℕ) → Refuses b (front_of b) x why → IsAnswer x → IsInOrder G b.journal n (outcome_for k (Err why) limit)
  refused_in_order k x (refusal.Stale said is) limit r h = absurd (r.0.1 refl)
  refused_in_order k x (refusal.BadMove place) limit r h = tt
  refused_in_order k x (refusal.BadSwap fault) limit r h = tt
  refused_in_order k x (refusal.NotBetter held given) limit r h = tt
  refused_in_order k x (refusal.Taken i j) limit r h = tt
  refused_in_order k x (refusal.NoRise held given) limit r h = refused_no_rise x held given r h
  refused_in_order k x refusal.OutOfMemory limit r h = tt

  refused_saves : (k : Kind) (why : Refusal) (limit : ℕ) → saved_by (outcome_for k (Err why) limit) ≡ 0
  refused_saves k (refusal.Stale said is) limit = refl
  refused_saves k (refusal.BadMove place) limit = refl
  refused_saves k (refusal.BadSwap fault) limit = refl
  refused_saves k (refusal.NotBetter held given) limit = refl
  refused_saves k (refusal.Taken i j) limit = refl
  refused_saves k (refusal.NoRise held given) limit = refl
  refused_saves k refusal.OutOfMemory limit = refl

  pub alone_offers : (new : HeldBook) (n : ℕ) (x : Entry) (answer : Result Accepted Refusal) (limit : ℕ) (out : Outcome) → n ≡ front_of b → IfOk answer (λ a. Accepts b n x a.place a.saved) → IfErr answer (Refuses b n x) → OnOk answer (new ≡ with_line b x) → OnErr answer (new ≡ b)
      → limit ≡ bound (now_of new) → IsWork limits frame u b.problem (now_of b).plan (table_at (now_of b)) (front_of b) (Offers x) → out ≡ outcome_for (kind_of x) answer limit → IsTurnAlone limits frame u b new out
  alone_offers new n x (Ok a) limit out e ok err grown kept l w is = subst (IsTurnAlone limits frame u b new) (sym is) (record {
    of_ground = ap ground_of grown;
    grows = (x ∷ [], sym journal);
    fits = good.0;
    made = let m = good.1 in let k = ap (λ (j : List Entry). length j) journal in omega (arith, m, k, length-append b.journal (x ∷ []));
    in_order = subst (λ (j : List Entry). IsInOrder (ground_of b) j (length b.journal) (outcome_for (kind_of x) (Ok a) limit)) (sym journal) (taken_in_order x a.place a.saved limit accepted.at_end (l ∙ ap (λ (c : HeldBook). bound (now_of c)) grown) w.1);
    saved = ap (λ (c : HeldBook). plan_total (now_of c).plan + saved_by (outcome_for (kind_of x) (Ok a) limit)) grown ∙ taken_saves x a.place a.saved limit accepted;
  })
    where
      journal : new.journal ≡ b.journal ++ x ∷ []
      journal = ap (λ (c : HeldBook). c.journal) grown

      accepted : Accepts b (front_of b) x a.place a.saved
      accepted = subst (λ (k : ℕ). Accepts b k x a.place a.saved) e ok

      good : Fits limits (ground_of b) frame u new.journal (outcome_for (kind_of x) (Ok a) limit) × (taken (Ok a) ≡ made_by (outcome_for (kind_of x) (Ok a) limit)) × (front_of b + steps_by (outcome_for (kind_of x) (Ok a) limit) ≤ front (lines_of new.journal))
      good = fits_answer limits frame u b b.journal (same_prefix b.journal b.journal refl) x (Ok a) limit new.journal (subst (λ (k : ℕ). Accepts b k x a.place a.saved) e ok, journal)
          (l ∙ ap (λ (c : HeldBook). bound (now_at (ground_of c) c.journal)) grown ∙ ap (λ (j : List Entry). bound (now_at (ground_of b) j)) (sym journal)) w.1
  alone_offers new n x (Err why) limit out e ok err grown kept l w is = subst (IsTurnAlone limits frame u b new) (sym is) (record {
    of_ground = ap ground_of kept;
    grows = same_prefix b.journal new.journal journal;
    fits = good.0;
    made = let m = good.1 in let k = ap (λ (j : List Entry). length j) journal in omega (arith, m, k);
    in_order = subst (λ (j : List Entry). IsInOrder (ground_of b) j (length b.journal) (outcome_for (kind_of x) (Err why) limit)) (sym journal) (refused_in_order (kind_of x) x why limit refused w.1);
    saved = let s = refused_saves (kind_of x) why limit in let t = ap (λ (c : HeldBook). plan_total (now_of c).plan) kept in omega (arith, s, t);
  })
    where
      journal : new.journal ≡ b.journal
      journal = ap (λ (c : HeldBook). c.journal) kept

      refused : Refuses b (front_of b) x why
      refused = subst (λ (k : ℕ). Refuses b k x why) e err

      good : Fits limits (ground_of b) frame u new.journal (outcome_for (kind_of x) (Err why) limit) × (taken (Err why) ≡ made_by (outcome_for (kind_of x) (Err why) limit)) × (front_of b + steps_by (outcome_for (kind_of x) (Err why) limit) ≤ front (lines_of new.journal))
      good = fits_answer limits frame u b b.journal (same_prefix b.journal b.journal refl) x (Err why) limit new.journal (refused, journal)
          (l ∙ ap (λ (c : HeldBook). bound (now_at (ground_of c) c.journal)) kept ∙ ap (λ (j : List Entry). bound (now_at (ground_of b) j)) (sym journal)) w.1

  pub alone_ends : (out : Outcome) → IsWork limits frame u b.problem (now_of b).plan (table_at (now_of b)) (front_of b) (Ends out) → IsTurnAlone limits frame u b b out
  alone_ends out w = record {
    of_ground = refl;
    grows = same_prefix b.journal b.journal refl;
    fits = good.0;
    made = let m = good.1 in omega (arith, m);
    in_order = ends_in_order out w;
    saved = let s = ends_saving out w in omega (arith, s);
  }
    where
      good : Fits limits (ground_of b) frame u b.journal out × (made_by out ≡ 0) × (steps_by out ≡ 0)
      good = fits_end limits frame u (ground_of b) b.journal (seen_all b) (all_at b) (length-lines b.journal) out w

      at_front : (base : ℕ) → base ≡ front_of b → base ≡ front (take n (lines_of b.journal))
      at_front base e = e ∙ ap front (sym (take_all n (lines_of b.journal) (let l = length-lines b.journal in omega (arith, l))))

      ends_in_order : (out : Outcome) → IsWork limits frame u b.problem (now_of b).plan (table_at (now_of b)) (front_of b) (Ends out) → IsInOrder (ground_of b) b.journal n out
      ends_in_order (outcome.NotBetter base) h = at_front base h.0
      ends_in_order (outcome.Stuck base round) h = at_front base h.0
      ends_in_order (outcome.Stale base front) h = absurd h
      ends_in_order (outcome.Published place saved) h = absurd h
      ends_in_order (outcome.Kept place) h = absurd h
      ends_in_order (outcome.Taken i j) h = absurd h
      ends_in_order (outcome.Packed place limit) h = absurd h
      ends_in_order (outcome.NoRise held given) h = absurd h
      ends_in_order outcome.NoMemory h = absurd h

      ends_saving : (out : Outcome) → IsWork limits frame u b.problem (now_of b).plan (table_at (now_of b)) (front_of b) (Ends out) → saved_by out ≡ 0
      ends_saving (outcome.NotBetter base) h = refl
      ends_saving (outcome.Stuck base round) h = refl
      ends_saving (outcome.Stale base front) h = refl
      ends_saving (outcome.Published place saved) h = absurd h
      ends_saving (outcome.Kept place) h = refl
      ends_saving (outcome.Taken i j) h = refl
      ends_saving (outcome.Packed place limit) h = refl
      ends_saving (outcome.NoRise held given) h = refl
      ends_saving outcome.NoMemory h = refl
