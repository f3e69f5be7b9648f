-- An outcome that fits a journal fits each that begins with it.
use Rattle.std.proofs.Common.{◌≡◌, ◌∙◌, ℕ, zero, suc, ◌+◌, ◌-◌, ◌<◌, ◌≤◌, Some, List, [], ◌∷◌, ◌++◌, length, take, sym, ap, ap₂, subst, arith}
use Rattle.std.specs.Prelude.{slice_get}
use Rattle.std.proofs.lemmas.List.{map-append, take-append-le}
use mathlib.Core.List.{IsPrefix}
use Rattle.flip_cnf.specs.HeldFrames.{HeldFrame}
use Rattle.plan_law.specs.Plans.{Plan, plan_total}
use Rattle.plan_law.specs.Books as law
use Rattle.plan_law.specs.Books.{State, opening_state, state_after, bound_of, bound, front}
use Rattle.plan_law.specs.Solving.{plan_after_all}
use Rattle.plan_core.specs.HeldPlans.{HeldPlan}
use Rattle.book_core.specs.declared.entry.Entry.{Entry}
use Rattle.book_core.specs.Entries.{Shown, line_of, lines_of}
use Rattle.worker_pool.specs.declared.limits.Limits.{Limits}
use Rattle.worker_pool.specs.Outcomes.{state_at, IsBestAt, answer_on, IsOwnStep, IsLateStep, IsOwnRow, IsOwnPack, IsNoRise}
use Rattle.worker_pool.proofs.Replicas.{length-lines, prefix_shorter, first_lines}
use Rattle.worker_pool.specs.Outcomes.{plan_at, job_at, FindsNone, Sticks, Fits}
use Rattle.worker_pool.specs.declared.outcome.Outcome.TheVariants as outcome
use Rattle.worker_pool.proofs.Turned.{front_grows, steps_of, steps_grow, front_is}

pub state_later : (ground : HeldPlan) (seen journal : List Entry) (n : ℕ) → IsPrefix seen journal → n ≤ length seen → state_at ground journal n ≡ state_at ground seen n
state_later ground seen journal n p l = ap (state_after ground.problem.points ground.problem.inputs (opening_state ground.plan)) (first_lines seen journal n p l)

pub plan_later : (ground : HeldPlan) (seen journal : List Entry) (n : ℕ) → IsPrefix seen journal → n ≤ front (lines_of seen) → plan_at ground journal n ≡ plan_at ground seen n
plan_later ground seen journal n (rest, e) l =
    ap (plan_after_all ground.problem.points ground.problem.inputs ground.plan) (ap (λ (j : List Entry). take n (steps_of j)) (sym e) ∙ (ap (take n) (steps_grow seen rest) ∙ take-append-le n (steps_of seen) (steps_of rest) (let f = front_is seen in omega (arith, f, l))))

module _ {X : Type 0} where
  there_within : (xs : List X) (n : ℕ) (x : X) → slice_get xs n ≡ Some x → n < length xs
  there_within [] n x e = absurd (cc)
  there_within (y ∷ xs) zero x e = omega arith
  there_within (y ∷ xs) (suc n) x e = let l = there_within xs n x e in omega (arith, l)

  pub there_later : (xs ys : List X) (n : ℕ) (x : X) → slice_get xs n ≡ Some x → slice_get (xs ++ ys) n ≡ Some x
  there_later [] ys n x e = absurd (cc)
  there_later (y ∷ xs) ys zero x e = e
  there_later (y ∷ xs) ys (suc n) x e = there_later xs ys n x e

module _ (limits : Limits) (ground : HeldPlan) (frame : HeldFrame) (u : ℕ) (seen journal : List Entry) (p : IsPrefix seen journal) where
  pub row_later : (place : ℕ) → IsOwnRow limits ground frame u seen place → IsOwnRow limits ground frame u journal place
  row_later place R = record { found = R.found; there = ap (λ (j : List Entry). slice_get j place) (sym p.1) ∙ there_later seen p.0 place _ R.there; of_job = R.of_job; earned = R.earned }

  pub no_rise_later : (held given : ℕ) → IsNoRise limits ground u seen held given → IsNoRise limits ground u journal held given
  no_rise_later held given R = let l = prefix_shorter seen journal p in let a = R.some in let b = R.fewer in record {
    of_job = R.of_job;
    entries = R.entries;
    seen = R.seen;
    some = omega (arith, l, a);
    fewer = R.fewer;
    perm = R.perm;
    best = subst (λ (s : State Shown). IsBestAt s R.perm) (sym (state_later ground seen journal R.seen p (omega (arith, a, b)))) R.best;
    held_is = R.held_is ∙ ap bound (sym (state_later ground seen journal R.entries p R.some));
    given_is = R.given_is ∙ ap (λ (s : State Shown). bound_of s R.perm) (sym (state_later ground seen journal R.entries p R.some));
    no_more = R.no_more;
  }

  line_later : (place : ℕ) (line : law.Entry Shown) → slice_get (lines_of seen) place ≡ Some line → slice_get (lines_of journal) place ≡ Some line
  line_later place line e = ap (λ (j : List Entry). slice_get (lines_of j) place) (sym p.1) ∙ (ap (λ (l : List (law.Entry Shown)). slice_get l place) (map-append line_of seen p.0) ∙ there_later (lines_of seen) (lines_of p.0) place line e)

  pub step_later : (place saved : ℕ) → IsOwnStep limits ground u seen place saved → IsOwnStep limits ground u journal place saved
  step_later place saved R = let w = there_within (lines_of seen) place R.line R.there in let k = length-lines seen in record {
    line = R.line;
    there = line_later place R.line R.there;
    answered = ap (λ (s : State Shown). answer_on limits ground u s.plan) (state_later ground seen journal place p (omega (arith, w, k))) ∙ R.answered;
    saves = R.saves ∙ ap₂ ◌-◌ (ap (λ (s : State Shown). plan_total s.plan) (sym (state_later ground seen journal place p (omega (arith, w, k))))) (ap (λ (s : State Shown). plan_total s.plan) (sym (state_later ground seen journal (place + 1) p (omega (arith, w, k)))));
  }

  pub late_later : (base is : ℕ) → IsLateStep limits ground u seen base is → IsLateStep limits ground u journal base is
  late_later base is R = let a = R.later in let b = R.no_later in let g = front_grows seen journal p in record {
    line = R.line;
    answered = ap (answer_on limits ground u) (plan_later ground seen journal base p (omega (arith, a, b))) ∙ R.answered;
    later = R.later;
    no_later = omega (arith, b, g);
  }

  pub pack_later : (place limit : ℕ) → IsOwnPack limits ground u seen place limit → IsOwnPack limits ground u journal place limit
  pack_later place limit R = let w = there_within seen place _ R.there in record {
    of_job = R.of_job;
    perm = R.perm;
    there = ap (λ (j : List Entry). slice_get j place) (sym p.1) ∙ there_later seen p.0 place _ R.there;
    limit_is = R.limit_is ∙ ap bound (sym (state_later ground seen journal (place + 1) p (omega (arith, w))));
  }

  pub none_later : (base : ℕ) → Fits limits ground frame u seen (outcome.NotBetter base) → Fits limits ground frame u journal (outcome.NotBetter base)
  none_later base h = let g = front_grows seen journal p in let a = h.0 in (omega (arith, g, a), subst (λ (q : Plan). FindsNone limits ground q (job_at limits ground u)) (sym (plan_later ground seen journal base p h.0)) h.1)

  pub stuck_later : (base round : ℕ) → Fits limits ground frame u seen (outcome.Stuck base round) → Fits limits ground frame u journal (outcome.Stuck base round)
  stuck_later base round h = let g = front_grows seen journal p in let a = h.0 in (omega (arith, g, a), subst (λ (q : Plan). Sticks ground q round (job_at limits ground u)) (sym (plan_later ground seen journal base p h.0)) h.1)
