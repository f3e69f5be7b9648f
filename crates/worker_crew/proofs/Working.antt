-- What a worker has taken after one turn more, and workers with one worker more.
use Rattle.std.proofs.Common.{◌≡◌, ◌∙◌, ◌⊎◌, inl, inr, ℕ, zero, suc, ◌+◌, ◌<◌, ◌≤◌, Some, List, [], ◌∷◌, ◌++◌, length, refl, sym, ap, subst, arith, length-append}
use Rattle.std.specs.Prelude.{true, false, Result, Ok, Err, IfOk, OnOk, OnErr, is_err, slice_get, slice_set}
use Rattle.std.proofs.Math.Seq.{set-append_seam}
use Rattle.std.proofs.lemmas.Bool.{cases_lt}
use Rattle.std.proofs.lemmas.List.{map-append}
use Rattle.std.proofs.lemmas.List.Elements.{All-push}
use Rattle.std.proofs.lemmas.List.Sums.{sum_by_push}
use Rattle.std.proofs.lemmas.Option.{slice_get_within}
use Rattle.vcell.specs.Passes.{LockView, PassView}
use Rattle.claims.specs.Draws.{SeatView, times}
use Rattle.claims.proofs.Numbers.{times-append}
use Rattle.flip_cnf.specs.HeldFrames.{HeldFrame}
use Rattle.plan_law.specs.Solving.{turns_of}
use Rattle.plan_core.specs.HeldPlans.{HeldPlan}
use Rattle.book_core.specs.declared.entry.Entry.{Entry}
use Rattle.book_core.specs.HeldBooks.{HeldBook, ground_of}
use Rattle.book_core.specs.HeldReplicas.{HeldReplica, seen_all}
use Rattle.worker_pool.specs.declared.limits.Limits.{Limits}
use Rattle.worker_pool.specs.Jobs.{order_of}
use Rattle.worker_pool.specs.Outcomes.{Fits, made_by, steps_by}
use Rattle.worker_pool.specs.Turns.{IsReplicaAt, IsTurn}
use Rattle.worker_pool.proofs.Replicas.{all_at}
use Rattle.worker_pool.proofs.Ordered.{same, fits_later}
use Rattle.worker_pool.proofs.Turned.{last_there}
use Rattle.worker_crew.specs.declared.taken.Taken.{Taken}
use Rattle.worker_crew.specs.Workers.{HasTaken, HaveTaken, turns_in}

-- a replica that has seen all of the book that was found
pub replica_seen : {X : Type 0} (ground : HeldPlan) (b : HeldBook) (seen : List Entry) → ground_of b ≡ ground → seen ≡ b.journal → (r : Result HeldReplica X) → IfOk r (λ held. held ≡ seen_all b) → IfOk r (IsReplicaAt ground seen)
replica_seen ground b seen g s (Ok held) e = subst (IsReplicaAt ground seen) (sym e) (subst (λ (j : List Entry). IsReplicaAt ground j (seen_all b)) (sym s) (subst (λ (q : HeldPlan). IsReplicaAt q b.journal (seen_all b)) g (all_at b)))
replica_seen ground b seen g s (Err why) e = tt

-- with one number more in the list, what stood there often enough still does
more_times : (x : ℕ) (taken : List Taken) (numbers : List ℕ) (n : ℕ) → times x (turns_in taken) ≤ times x numbers → times x (turns_in taken) ≤ times x (numbers ++ n ∷ [])
more_times x taken numbers n l = let e = times-append x numbers (n ∷ []) in omega (arith, l, e)

-- a number was drawn and no turn was taken
pub drawn_more : (limits : Limits) (frame : HeldFrame) (ground : HeldPlan) (numbers : List ℕ) (n : ℕ) (pass : PassView Entry HeldPlan) (taken : List Taken) → HasTaken limits frame ground numbers pass taken → HasTaken limits frame ground (numbers ++ n ∷ []) pass taken
drawn_more limits frame ground numbers n pass taken R = record {
  drawn = λ x. more_times x taken numbers n (R.drawn x);
  turns = R.turns;
  fit = R.fit;
  made = R.made;
  steps = R.steps;
}

-- the number that was drawn is the turn that was taken
pub has_taken_more : (limits : Limits) (frame : HeldFrame) (lock : LockView HeldPlan) (numbers : List ℕ) (before after : PassView Entry HeldPlan) (taken : List Taken) (replica : HeldReplica) (t : Taken)
    → t.turn < turns_of (order_of limits) lock.ground.problem.inputs → HasTaken limits frame lock.ground numbers before taken → IsTurn limits frame t.turn lock before after replica t.outcome
    → HasTaken limits frame lock.ground (numbers ++ t.turn ∷ []) after (taken ++ t ∷ [])
has_taken_more limits frame lock numbers before after taken replica t below R T = record {
  drawn = λ x. let e = ap (times x) (map-append (λ (s : Taken). s.turn) taken (t ∷ [])) ∙ times-append x (turns_in taken) (t.turn ∷ []) in let f = times-append x numbers (t.turn ∷ []) in let l = R.drawn x in omega (arith, e, f, l);
  turns = All-push (λ (s : Taken). s.turn < turns_of (order_of limits) lock.ground.problem.inputs) taken t R.turns below;
  fit = All-push (λ (s : Taken). Fits limits lock.ground frame s.turn after.seen s.outcome) taken t (λ k d lt. fits_later limits lock.ground frame _ before.seen after.seen T.grows _ (R.fit k d lt)) T.fits;
  made = let s = sum_by_push (λ (s : Taken). made_by s.outcome) taken t in let m = R.made in let n = T.made in omega (arith, s, m, n);
  steps = let s = sum_by_push (λ (s : Taken). steps_by s.outcome) taken t in let m = R.steps in let n = T.steps in omega (arith, s, m, n);
}

-- the outcome is put at the place that was kept for it
pub put_last : (taken : List Taken) (kept t : Taken) (place : ℕ) → place ≡ length taken → slice_set (taken ++ kept ∷ []) place t ≡ taken ++ t ∷ []
put_last taken kept t place e = ap (λ (p : ℕ). slice_set (taken ++ kept ∷ []) p t) e ∙ set-append_seam taken kept [] t

-- ---- what a call was told
module _ {A B : Type 0} (P : Type 0) where
  pub at_ok : (r : Result A B) → is_err r ≡ false → OnOk r P → P
  at_ok (Ok a) e h = h
  at_ok (Err b) e h = absurd (cc)

  pub at_err : (r : Result A B) → is_err r ≡ true → OnErr r P → P
  at_err (Ok a) e h = absurd (cc)
  at_err (Err b) e h = h

-- ---- lists with one item more
module _ {X : Type 0} where
  first_there : (xs : List X) (y : X) (n : ℕ) → n < length xs → slice_get (xs ++ y ∷ []) n ≡ slice_get xs n
  first_there [] y n l = absurd (omega (arith, l))
  first_there (x ∷ xs) y zero l = refl
  first_there (x ∷ xs) y (suc n) l = first_there xs y n (omega (arith, l))

-- one more worker
pub have_taken_more : (limits : Limits) (frame : HeldFrame) (ground : HeldPlan) (seats : List SeatView) (passes : List (PassView Entry HeldPlan)) (parts : List (List Taken)) (seat : SeatView) (pass : PassView Entry HeldPlan) (part : List Taken)
    → HaveTaken limits frame ground seats passes parts → HasTaken limits frame ground seat.numbers pass part → HaveTaken limits frame ground (seats ++ seat ∷ []) (passes ++ pass ∷ []) (parts ++ part ∷ [])
have_taken_more limits frame ground seats passes parts seat pass part R own = record {
  seats_each = let a = R.seats_each in omega (arith, a, length-append seats (seat ∷ []), length-append parts (part ∷ []));
  passes_each = let a = R.passes_each in omega (arith, a, length-append passes (pass ∷ []), length-append parts (part ∷ []));
  each = each_more;
}
  where
    each_more : (k : ℕ) (s : SeatView) (p : PassView Entry HeldPlan) (t : List Taken) → slice_get (seats ++ seat ∷ []) k ≡ Some s → slice_get (passes ++ pass ∷ []) k ≡ Some p → slice_get (parts ++ part ∷ []) k ≡ Some t
        → HasTaken limits frame ground s.numbers p t
    each_more k s p t a b c = by_place (cases_lt k (length parts))
      where
        within : k < length parts + 1
        within = let w = slice_get_within (parts ++ part ∷ []) k t c in let l = length-append parts (part ∷ []) in omega (arith, w, l)

        by_place : (k < length parts) ⊎ (length parts ≤ k) → HasTaken limits frame ground s.numbers p t
        by_place (inl l) = let m = R.seats_each in let n = R.passes_each in
            R.each k s p t (sym (first_there seats seat k (omega (arith, l, m))) ∙ a) (sym (first_there passes pass k (omega (arith, l, n))) ∙ b) (sym (first_there parts part k l) ∙ c)
        by_place (inr l) = let m = R.seats_each in let n = R.passes_each in let w = within in
            let at_seat = same seat s (sym (last_there seats seat k (omega (arith, l, m, w))) ∙ a) in
            let at_pass = same pass p (sym (last_there passes pass k (omega (arith, l, n, w))) ∙ b) in
            let at_part = same part t (sym (last_there parts part k (omega (arith, l, w))) ∙ c) in
            subst (λ (s : SeatView). HasTaken limits frame ground s.numbers p t) at_seat (subst (λ (p : PassView Entry HeldPlan). HasTaken limits frame ground seat.numbers p t) at_pass (subst (λ (t : List Taken). HasTaken limits frame ground seat.numbers pass t) at_part own))
