-- What a book answers to what a turn worked out on a plan of it.
use Rattle.std.proofs.Common.{◌≡◌, ◌∙◌, ◌⊎◌, inl, inr, ℕ, zero, suc, ◌<◌, true, false, Option, Some, None, Result, Ok, Err, IfErr, List, [], ◌∷◌, length, take, Contains, refl, sym, ap, ap₂, subst, arith}
use Rattle.std.specs.Prelude.{sum}
use native.Mathlib.Decide.{ℕ_discrete}
use Rattle.std.proofs.lemmas.List.Elements.{Contains-get_or}
use mathlib.Core.List.{IsPrefix}
use Rattle.geo_orient.specs.declared.Point.{Point}
use Rattle.edge_table.specs.declared.edge.Edge.{Edge}
use Rattle.flip_cnf.specs.HeldFrames.{HeldFrame}
use Rattle.bound_law.specs.Bounds.{input_at}
use Rattle.pair_rows.specs.declared.row.Row as row
use Rattle.replay.proofs.ScoreLaws.{ends_are_unique, schedules_have_no_fault}
use Rattle.replay.proofs.Unique.{found_in}
use Rattle.plan_law.specs.Images.{image_of}
use Rattle.plan_law.specs.Plans.{Plan, IsInstance, plan_total, with_flip, followed, followed_all, swapped}
use Rattle.plan_law.specs.Books.{is_plan_entry, front, AreRoundsOf, Lowers, MayBeOffered, IsFit}
use Rattle.plan_law.specs.BookLaws.{IsState}
use Rattle.plan_law.specs.Worlds.{StopsAt, IsNoBetter}
use Rattle.plan_law.proofs.Proved.{books_keep_plans, answers_are_fit}
use Rattle.plan_core.specs.declared.fault.SwapFault.{SwapFault}
use Rattle.plan_core.specs.declared.fault.SwapFault.TheVariants as fault
use Rattle.plan_core.specs.HeldPlans.{HeldPlan}
use Rattle.book_core.specs.declared.entry.Entry.{Entry}
use Rattle.book_core.specs.declared.entry.Entry.TheVariants as entry
use Rattle.book_core.specs.declared.refusal.Accepted.{Accepted}
use Rattle.book_core.specs.declared.refusal.Refusal.{Refusal}
use Rattle.book_core.specs.declared.refusal.Refusal.TheVariants as refusal
use Rattle.book_core.specs.Entries.{Shown, line_of, lines_of, IsJustifiedRow}
use Rattle.book_core.specs.HeldBooks.{HeldBook, ground_of, book_of, now_of, front_of, Refuses, Stales, SwapsAstray}
use Rattle.book_core.specs.HeldReplicas.{HeldReplica}
use Rattle.plan_moves.proofs.Lowered.{instance_of}
use Rattle.worker_pool.specs.declared.limits.Limits.{Limits}
use Rattle.worker_pool.specs.declared.turn.Kind.TheVariants.{Step, Bound, Assigned}
use Rattle.worker_pool.specs.Jobs.{order_of}
use Rattle.worker_pool.specs.Outcomes.{job_at, answer_on}
use Rattle.worker_pool.specs.Turns.{IsReplicaAt, IsLegalBook, IsPublished, MayBeRefused, kind_of, now_at}
use Rattle.worker_pool.specs.Works.{table_at, IsAnswerTo}
use Rattle.worker_pool.specs.Laws.{FreshAnswersAreTaken, LateAnswersAreStale}
use Rattle.worker_pool.proofs.Ordered.{same, answer_step}
use Rattle.worker_pool.proofs.Prefixes.{same_prefix}
use Rattle.worker_pool.proofs.Turned.{front_grows, same_plan, base_is, answer_found}

-- ---- a move whose edges flip in turn doesn't stop
module _ (points : List Point) where
  not_followed : (plan : Plan) (e : Edge) → image_of points plan.centre e ≡ None → followed points plan e ≡ None
  not_followed plan e h = ap (λ r. elim r as (λ _. Option Plan) [ Some f ↦ Some (with_flip plan (record { edge = e; image = f })) | None ↦ None ]) h

  stopped : (edges : List Edge) (plan next : Plan) (p : ℕ) → StopsAt points plan edges p → followed_all points plan edges ≡ Some next → ⊥
  stopped [] plan next p (e, before, g, f, i) h = absurd (cc)
  stopped (e0 ∷ edges) plan next zero (e, before, g, f, i) h =
      let a : e0 ≡ e = same e0 e g in
      let b : plan ≡ before = same plan before f in
      let c : image_of points plan.centre e0 ≡ None = ap₂ (λ (q : Plan) (d : Edge). image_of points q.centre d) b a ∙ i in
      let n : followed_all points plan (e0 ∷ edges) ≡ None = ap (λ r. elim r as (λ _. Option Plan) [ Some next ↦ followed_all points next edges | None ↦ None ]) (not_followed plan e0 c) in
      absurd (let z : None ≡ Some next = sym n ∙ h in cc)
  stopped (e0 ∷ edges) plan next (suc p) (e, before, g, f, i) h = by_next (followed points plan e0) f h (λ mid k l. stopped edges mid next p k l)
    where
      by_next : (r : Option Plan) → elim r [ Some mid ↦ followed_all points mid (take p edges) | None ↦ None ] ≡ Some before → elim r [ Some mid ↦ followed_all points mid edges | None ↦ None ] ≡ Some next
          → ((mid : Plan) → StopsAt points mid edges p → followed_all points mid edges ≡ Some next → ⊥) → ⊥
      by_next None k l again = absurd (cc)
      by_next (Some mid) k l again = again mid (e, before, g, k, i) l

-- what lowers the total isn't no better
no_worse : (plan : Plan) (after : Option Plan) (held given : ℕ) → Lowers plan after → IsNoBetter plan after held given → ⊥
no_worse plan after held given (next, e, l) (other, f, h, g, k) = let t = ap plan_total (same next other (sym e ∙ f)) in omega (arith, t, l, h, g, k)

-- ---- an improver's answer on the plan after the entries that were seen
module _ (limits : Limits) (u : ℕ) (b : HeldBook) (L : IsLegalBook b) (seen : List Entry) (begins : IsPrefix seen b.journal) where
  abbrev G : HeldPlan
  G = ground_of b

  abbrev points : List Point
  points = b.problem.points

  abbrev inputs : List (List Edge)
  inputs = b.problem.inputs

  abbrev base : ℕ
  base = front (lines_of seen)

  abbrev Answers : Entry → Type 0
  Answers x = answer_on limits G u (now_at G seen).plan ≡ Some (line_of x)

  N : IsInstance points inputs
  N = instance_of points inputs L.is_problem

  state : IsState (IsJustifiedRow points inputs) points inputs (now_of b)
  state = books_keep_plans Shown (λ points inputs r. IsJustifiedRow points inputs r) points inputs (book_of b) N L.is_book

  -- where the book has as many moves and swaps, it is fit
  pub fits_now : (x : Entry) → base ≡ front_of b → Answers x → MayBeOffered (IsJustifiedRow points inputs) (length inputs) (sum (now_of b).plan.weights) (line_of x) × IsFit points inputs (now_of b) (line_of x)
  fits_now x fresh h =
      answers_are_fit Shown (λ points inputs r. IsJustifiedRow points inputs r) (order_of limits) points inputs (now_of b) u (line_of x) N state.is_plan (ap (answer_on limits G u) (sym (same_plan G seen b.journal begins fresh)) ∙ h)

  fresh_base : (x : Entry) → is_plan_entry (line_of x) ≡ true → ¬ Stales b base x → base ≡ front_of b
  fresh_base x step n = by_dec (ℕ_discrete base (front_of b))
    where
      by_dec : Dec (base ≡ front_of b) → base ≡ front_of b
      by_dec (yes e) = e
      by_dec (no k) = absurd (n (step, k))

  abbrev pub IsLateOrWants : Refusal → Type 0
  IsLateOrWants why = ((why ≡ refusal.Stale base (front_of b)) × (base < front_of b)) ⊎ (why ≡ refusal.OutOfMemory)

  late : (x : Entry) (said is : ℕ) → Refuses b base x (refusal.Stale said is) → IsLateOrWants (refusal.Stale said is)
  late x said is (s, a, c) = inl (ap₂ refusal.Stale a c, (let g = front_grows seen b.journal begins in let n = s.1 in omega (arith, g, n)))

  move_refused : (turn : ℕ) (edges : List Edge) → Answers (entry.Move turn edges) → (why : Refusal) → Refuses b base (entry.Move turn edges) why → IsLateOrWants why
  move_refused turn edges h (refusal.Stale said is) r = late (entry.Move turn edges) said is r
  move_refused turn edges h (refusal.BadMove place) (n, F) = absurd (let f = (fits_now (entry.Move turn edges) (fresh_base (entry.Move turn edges) refl n) h).1 in stopped points edges (now_of b).plan f.0 place F f.1)
  move_refused turn edges h (refusal.BadSwap f) (n, F) = absurd F
  move_refused turn edges h (refusal.NotBetter held given) (n, F) = absurd (no_worse (now_of b).plan (followed_all points (now_of b).plan edges) held given (fits_now (entry.Move turn edges) (fresh_base (entry.Move turn edges) refl n) h).1 F)
  move_refused turn edges h (refusal.Taken i j) F = absurd F
  move_refused turn edges h (refusal.NoRise held given) F = absurd F
  move_refused turn edges h refusal.OutOfMemory F = inr refl

  -- rounds that lead to the centre don't go astray
  no_fault : (turn input : ℕ) (rounds : List (List Edge)) → input < length inputs → AreRoundsOf points (input_at inputs input) rounds (now_of b).plan.centre → (f : SwapFault) → SwapsAstray b (entry.Swap turn input rounds) f → ⊥
  no_fault turn input rounds l R (fault.Round f) F = schedules_have_no_fault points (input_at inputs input) (now_of b).plan.centre rounds f L.is_problem.placed (L.is_problem.triangulated (input_at inputs input) (Contains-get_or inputs input [] l)) (record { distinct = R.distinct; leads = R.leads }) F
  no_fault turn input rounds l R (fault.OtherEnd e) F =
      F.outside.holds (subst (λ (es : List Edge). Contains es e) (ends_are_unique points (input_at inputs input) rounds F.end (now_of b).plan.centre F.leads (record { distinct = R.distinct; leads = R.leads })) (found_in F.end F.outside.place e F.outside.there))
  no_fault turn input rounds l R (fault.NotFewer held given) F = F
  no_fault turn input rounds l R fault.OutOfMemory F = F

  swap_refused : (turn input : ℕ) (rounds : List (List Edge)) → Answers (entry.Swap turn input rounds) → (why : Refusal) → Refuses b base (entry.Swap turn input rounds) why → IsLateOrWants why
  swap_refused turn input rounds h (refusal.Stale said is) r = late (entry.Swap turn input rounds) said is r
  swap_refused turn input rounds h (refusal.BadMove place) (n, F) = absurd F
  swap_refused turn input rounds h (refusal.BadSwap f) (n, F) = absurd (let k = fits_now (entry.Swap turn input rounds) (fresh_base (entry.Swap turn input rounds) refl n) h in no_fault turn input rounds k.0 k.1.0 f F)
  swap_refused turn input rounds h (refusal.NotBetter held given) (n, F) =
      absurd (no_worse (now_of b).plan (swapped points inputs (now_of b).plan input rounds) held given (fits_now (entry.Swap turn input rounds) (fresh_base (entry.Swap turn input rounds) refl n) h).1.1 F.1)
  swap_refused turn input rounds h (refusal.Taken i j) F = absurd F
  swap_refused turn input rounds h (refusal.NoRise held given) F = absurd F
  swap_refused turn input rounds h refusal.OutOfMemory F = inr refl

  -- the answer is a move or a swap
  is_step : (x : Entry) → Answers x → is_plan_entry (line_of x) ≡ true
  is_step x h = (answer_step (order_of limits).words points inputs (now_at G seen).plan u (job_at limits G u) (line_of x) h).1

  pub answer_refused : (x : Entry) → Answers x → (why : Refusal) → Refuses b base x why → IsLateOrWants why
  answer_refused (entry.Move turn edges) h why r = move_refused turn edges h why r
  answer_refused (entry.Swap turn input rounds) h why r = swap_refused turn input rounds h why r
  answer_refused (entry.Row turn found) h why r = absurd (let z : false ≡ true = is_step (entry.Row turn found) h in cc)
  answer_refused (entry.Pack turn perm) h why r = absurd (let z : false ≡ true = is_step (entry.Pack turn perm) h in cc)

  -- ---- what a turn offers
  step_may : (why : Refusal) → IsLateOrWants why → MayBeRefused Step why
  step_may why (inl (e, l)) = subst (MayBeRefused Step) (sym e) tt
  step_may why (inr e) = subst (MayBeRefused Step) (sym e) tt

  row_may : (turn : ℕ) (found : row.Row) (why : Refusal) → Refuses b base (entry.Row turn found) why → MayBeRefused Bound why
  row_may turn found (refusal.Stale said is) r = absurd (let z : false ≡ true = r.0.0 in cc)
  row_may turn found (refusal.BadMove place) r = absurd r.1
  row_may turn found (refusal.BadSwap f) r = absurd r.1
  row_may turn found (refusal.NotBetter held given) r = absurd r.1
  row_may turn found (refusal.Taken i j) r = tt
  row_may turn found (refusal.NoRise held given) r = absurd r
  row_may turn found refusal.OutOfMemory r = tt

  pack_may : (turn : ℕ) (perm : List ℕ) (why : Refusal) → Refuses b base (entry.Pack turn perm) why → MayBeRefused Assigned why
  pack_may turn perm (refusal.Stale said is) r = absurd (let z : false ≡ true = r.0.0 in cc)
  pack_may turn perm (refusal.BadMove place) r = absurd r.1
  pack_may turn perm (refusal.BadSwap f) r = absurd r.1
  pack_may turn perm (refusal.NotBetter held given) r = absurd r.1
  pack_may turn perm (refusal.Taken i j) r = absurd r
  pack_may turn perm (refusal.NoRise held given) r = tt
  pack_may turn perm refusal.OutOfMemory r = tt

  pub may_be_refused : (frame : HeldFrame) (table : List (List ℕ)) (n : ℕ) (x : Entry) → IsAnswerTo limits frame u b.problem (now_at G seen).plan table n x → (why : Refusal) → Refuses b base x why → MayBeRefused (kind_of x) why
  may_be_refused frame table n (entry.Move turn edges) h why r = step_may why (answer_refused (entry.Move turn edges) h why r)
  may_be_refused frame table n (entry.Swap turn input rounds) h why r = step_may why (answer_refused (entry.Swap turn input rounds) h why r)
  may_be_refused frame table n (entry.Row turn found) h why r = row_may turn found why r
  may_be_refused frame table n (entry.Pack turn perm) h why r = pack_may turn perm why r

-- ---- what was worked out on a replica, or on the book itself, and offered
pub published_may : (limits : Limits) (frame : HeldFrame) (u : ℕ) (ground : HeldPlan) (seen : List Entry) (r : HeldReplica) → IsReplicaAt ground seen r → r.state.seen ≡ length seen → (x : Entry) (answer : Result Accepted Refusal) (limit : ℕ) (after : List Entry)
    → IsPublished ground seen r.state.front x answer limit after → IsAnswerTo limits frame u r.problem r.state.plan r.state.table r.state.front x → IfErr answer (MayBeRefused (kind_of x))
published_may limits frame u ground seen r R all x (Ok a) limit after P h = tt
published_may limits frame u ground seen r R all x (Err why) limit after P h =
    may_be_refused limits u P.found P.legal seen P.begins frame (table_at (now_at (ground_of P.found) seen)) (front (lines_of seen)) x (answer_found limits frame u ground seen r R all P.found P.of_ground x h) why
    (subst (λ (n : ℕ). Refuses P.found n x why) (base_is limits frame u ground seen r R all) P.answered.0)

pub alone_may : (limits : Limits) (frame : HeldFrame) (u : ℕ) (b : HeldBook) → IsLegalBook b → (n : ℕ) (x : Entry) (answer : Result Accepted Refusal) → n ≡ front_of b → IsAnswerTo limits frame u b.problem (now_of b).plan (table_at (now_of b)) (front_of b) x → IfErr answer (Refuses b n x)
    → IfErr answer (MayBeRefused (kind_of x))
alone_may limits frame u b L n x (Ok a) e h r = tt
alone_may limits frame u b L n x (Err why) e h r = may_be_refused limits u b L b.journal (same_prefix b.journal b.journal refl) frame (table_at (now_of b)) (front_of b) x h why (subst (λ (n : ℕ). Refuses b n x why) e r)

-- ---- the laws
pub fresh_answers_are_taken : FreshAnswersAreTaken
fresh_answers_are_taken limits u b seen x L p fresh h = ((fits_now limits u b L seen p x fresh h).1, λ why r. by_cause why (answer_refused limits u b L seen p x h why r))
  where
    by_cause : (why : Refusal) → IsLateOrWants limits u b L seen p why → why ≡ refusal.OutOfMemory
    by_cause why (inl (e, l)) = absurd (omega (arith, l, fresh))
    by_cause why (inr e) = e

pub late_answers_are_stale : LateAnswersAreStale
late_answers_are_stale limits u b seen x L p later h = (λ place saved A. A.fresh (is_step limits u b L seen p x h, λ e. omega (arith, later, e)), λ why r. by_cause why (answer_refused limits u b L seen p x h why r))
  where
    by_cause : (why : Refusal) → IsLateOrWants limits u b L seen p why → (why ≡ refusal.Stale (front (lines_of seen)) (front_of b)) ⊎ (why ≡ refusal.OutOfMemory)
    by_cause why (inl (e, l)) = inl e
    by_cause why (inr e) = inr e
