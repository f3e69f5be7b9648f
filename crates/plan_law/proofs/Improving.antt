-- Improvers keep a plan, and never raise its total.
use Rattle.std.proofs.Common.{◌≡◌, ℕ, zero, suc, ◌<◌, ◌≤◌, Bool, true, false, cond, ◌/◌, ◌%◌, ◌==◌, Option, Some, None, List, length, refl, sym, subst, arith}
use Rattle.std.specs.Prelude.{unwrap_or}
use Rattle.geo_orient.specs.declared.Point.{Point}
use Rattle.edge_table.specs.declared.edge.Edge.{Edge}
use Rattle.plan_law.specs.Plans.{IsInstance, Plan, IsPlanOf, plan_total, followed_all, swapped}
use Rattle.plan_law.specs.PlanLaws.{Swaps}
use Rattle.plan_law.specs.Improvers.{walk, Descent, Better, NotBetter, Stuck, descent}
use Rattle.plan_law.specs.ImproverLaws.{IsBetter}
use Rattle.plan_law.specs.Books.{Lowers}
use Rattle.plan_law.specs.Jobs.{Walks, Descends}
use Rattle.plan_law.specs.Solving.{swap_of, move_of, answer}
use Rattle.plan_law.specs.Improving.{taken, improved_by, improved, ImproversNeverWorsen}
use Rattle.plan_law.proofs.Plans.{following_keeps_plans, swaps_keep_plans}
use Rattle.plan_law.proofs.Improvers.{walks_lower, descents_lower}

module _ (points : List Point) (inputs : List (List Edge)) (N : IsInstance points inputs) where
  -- a plan that is no worse
  abbrev Keeps : Plan → Plan → Type 0
  Keeps plan next = IsPlanOf points inputs next × (plan_total next ≤ plan_total plan)

  by_walk : (plan : Plan) → IsPlanOf points inputs plan → (turn : ℕ) (words : List ℕ) (r : Option (List Edge)) → walk points plan words ≡ r → Keeps plan (taken points inputs plan (move_of turn r))
  by_walk plan h turn words None e = (h, omega arith)
  by_walk plan h turn words (Some es) e = by_next (walks_lower points plan words es e)
    where
      by_next : Lowers plan (followed_all points plan es) → Keeps plan (unwrap_or (followed_all points plan es) plan)
      by_next (next, i, l) = subst (λ r. Keeps plan (unwrap_or r plan)) (sym i) ((following_keeps_plans points inputs plan next es N h i).0, omega arith)

  by_descent : (plan : Plan) → IsPlanOf points inputs plan → (turn input : ℕ) → input < length inputs → (d : Descent) → descent points inputs plan input ≡ d → Keeps plan (taken points inputs plan (swap_of turn input d))
  by_descent plan h turn input l (NotBetter held given) e = (h, omega arith)
  by_descent plan h turn input l (Stuck round) e = (h, omega arith)
  by_descent plan h turn input l (Better rounds) e = by_next B.lowers
    where
      B : IsBetter points inputs plan input rounds
      B = descents_lower points inputs plan input rounds N h l e

      W : Swaps points inputs plan input rounds
      W = swaps_keep_plans points inputs plan input rounds N h l B.are_rounds

      by_next : Lowers plan (swapped points inputs plan input rounds) → Keeps plan (unwrap_or (swapped points inputs plan input rounds) plan)
      by_next (next, i, m) =
          let same : W.next ≡ next = (let j = W.is_swapped in cc) in
          subst (λ r. Keeps plan (unwrap_or r plan)) (sym i) (subst (IsPlanOf points inputs) same W.is_plan, omega arith)

  one_keeps : (words : ℕ → List ℕ) (p : ℕ) (plan : Plan) → IsPlanOf points inputs plan → Keeps plan (improved_by words points inputs p plan)
  one_keeps words p plan h = by_parity (p % 2 == 0)
    where
      some : 0 < length inputs
      some = N.some_input

      by_parity : (v : Bool) → Keeps plan (taken points inputs plan (answer words points inputs plan p (cond v (Walks p) (Descends p (p / 2 % length inputs)))))
      by_parity true = by_walk plan h p (words p) (walk points plan (words p)) refl
      by_parity false = by_descent plan h p (p / 2 % length inputs) (omega (arith, some)) (descent points inputs plan (p / 2 % length inputs)) refl

  all_keep : (words : ℕ → List ℕ) (left p : ℕ) (plan : Plan) → IsPlanOf points inputs plan → Keeps plan (improved words points inputs left p plan)
  all_keep words zero p plan h = (h, omega arith)
  all_keep words (suc left) p plan h =
      let one = one_keeps words p plan h in
      let rest = all_keep words left (suc p) (improved_by words points inputs p plan) one.0 in
      let a = one.1 in
      let b = rest.1 in
      (rest.0, omega (arith, a, b))

pub improvers_never_worsen : ImproversNeverWorsen
improvers_never_worsen words points inputs left p plan N h = all_keep points inputs N words left p plan h
