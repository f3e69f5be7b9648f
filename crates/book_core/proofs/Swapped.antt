-- What a swap makes of the total.
use Rattle.std.proofs.Common.{◌≡◌, ◌∙◌, ℕ, zero, suc, ◌+◌, ◌-◌, ◌*◌, ◌<◌, ◌≤◌, List, length, get_or, sym, ap, subst, arith}
use Rattle.edge_table.specs.declared.edge.Edge.{Edge}
use Rattle.tri_check.specs.Problems.{Problem, IsProblem}
use Rattle.flip_list_law.specs.FlipLists.{round_count}
use Rattle.bound_law.specs.Bounds.{input_at}
use Rattle.replay.specs.Independent as replay
use Rattle.plan_law.specs.Plans.{Plan, IsPlanOf, plan_total}
use Rattle.plan_law.specs.PlanLaws.{Swaps}
use Rattle.plan_law.specs.Books.{AreRoundsOf}
use Rattle.plan_law.proofs.Proved.{swaps_keep_plans}
use Rattle.plan_core.specs.HeldPlans.{list_at}
use Rattle.plan_core.specs.SwapFaults.{IsSwapped, IsNotFewer}
use Rattle.book_core.specs.declared.refusal.Refusal.TheVariants as refusal
use Rattle.book_core.specs.PlanSteps.{IsNoSwap, IsSwappedIn}
use Rattle.book_core.proofs.Following.{instance_of}

times_over : (w m n : ℕ) → w * (m + n) ≡ w * m + w * n
times_over w m n = omega arith

at_least : (w n : ℕ) → 1 ≤ w → 0 < n → 0 < w * n
at_least zero n l h = absurd (omega (arith, l))
at_least (suc w) n l h = omega (arith, h)

apart : (m n : ℕ) → m ≤ n → m + (n - m) ≡ n
apart m n l = omega (arith, l)

module _ (problem : Problem) (plan : Plan) (I : IsProblem problem.points problem.inputs) (K : IsPlanOf problem.points problem.inputs plan) (t : ℕ) (h : t < length problem.inputs) (rounds : List (List Edge)) where
  lawful : {to : List Edge} → replay.AreRoundsOf problem.points (input_at problem.inputs t) rounds to → AreRoundsOf problem.points (input_at problem.inputs t) rounds to
  lawful R = record { distinct = R.distinct; leads = R.leads }

  swaps : replay.AreRoundsOf problem.points (input_at problem.inputs t) rounds plan.centre → Swaps problem.points problem.inputs plan t rounds
  swaps R = swaps_keep_plans problem.points problem.inputs plan t rounds (instance_of problem.points problem.inputs I) K h (lawful R)

  abbrev w : ℕ
  w = get_or plan.weights t 0

  weighs : 1 ≤ w
  weighs = K.weighed.positive t 0 (let l = K.weighed.one_each in omega (arith, h, l))

  totals : (next : Plan) → IsSwapped problem plan t rounds next → plan_total next + w * round_count (list_at plan t) ≡ plan_total plan + w * round_count (list_at next t)
  totals next S = subst (λ (p : Plan). plan_total p + w * round_count (list_at plan t) ≡ plan_total plan + w * round_count (list_at p t)) same W.totals
    where
      W : Swaps problem.points problem.inputs plan t rounds
      W = swaps S.leads

      same : W.next ≡ next
      same = let e = sym W.is_swapped ∙ S.swapped in cc

  pub swapped_in : (next : Plan) (saved : ℕ) → IsSwapped problem plan t rounds next → 0 < saved → round_count (list_at next t) + saved ≡ round_count (list_at plan t) → IsSwappedIn problem plan t rounds (w * saved) next
  swapped_in next saved S some e = record {
    rounds_lead = lawful S.leads;
    lowered = record {
      leads = S.swapped;
      saves = (let f = totals next S in let g = ap (λ n. w * n) e in let d = times_over w (round_count (list_at next t)) saved in omega (arith, f, g, d));
      some = at_least w saved weighs some;
    };
  }

  pub no_better : (was given held after : ℕ) → IsNotFewer problem plan t rounds was given → held ≡ plan_total plan → after ≡ held + w * (given - was) → IsNoSwap problem plan t rounds (refusal.NotBetter held after)
  no_better was given held after N e f =
      let s = totals N.next N.is_swapped in
      let a = N.held_is in
      let b = N.given_is in
      let g = ap (λ n. w * n) (apart was given N.not_fewer) in
      let d = times_over w was (given - was) in
      let p = ap (λ n. w * n) a in
      let q = ap (λ n. w * n) b in
      (lawful N.is_swapped.leads, (N.next, N.is_swapped.swapped, e, omega (arith, s, d, g, p, q, e, f), omega (arith, f)))
