-- A plan that improvers work on one after the other, each on what the earlier ones made of it.
use Rattle.std.specs.Prelude.{ℕ, ◌≤◌, zero, suc, Option, Some, None, unwrap_or, List, length}
use Rattle.geo_orient.specs.declared.Point.{Point}
use Rattle.edge_table.specs.declared.edge.Edge.{Edge}
use Rattle.plan_law.specs.Plans.{IsInstance, Plan, IsPlanOf, plan_total}
use Rattle.plan_law.specs.Books.{Entry, plan_after}
use Rattle.plan_law.specs.Jobs.{improver_job}
use Rattle.plan_law.specs.Solving.{answer}

-- the plan with a better answer taken, or the plan itself where there is none
abbrev pub taken : List Point → List (List Edge) → Plan → Option (Entry (Unit {0})) → Plan
taken points inputs plan (Some entry) = unwrap_or (plan_after points inputs plan entry) plan
taken points inputs plan None = plan

-- what improver p makes of a plan. `words p` are the first words that it draws
abbrev pub improved_by : (ℕ → List ℕ) → List Point → List (List Edge) → ℕ → Plan → Plan
improved_by words points inputs p plan = taken points inputs plan (answer words points inputs plan p (improver_job (length inputs) p))

-- what so many improvers make of it, the first of them improver p
abbrev pub improved : (ℕ → List ℕ) → List Point → List (List Edge) → ℕ → ℕ → Plan → Plan
improved words points inputs zero p plan = plan
improved words points inputs (suc left) p plan = improved words points inputs left (suc p) (improved_by words points inputs p plan)

-- improvers keep a plan, and never raise its total. The law is the contract of a function of the crate, so it is proved
abbrev pub ImproversNeverWorsen : Type 0
ImproversNeverWorsen =
    (words : ℕ → List ℕ) (points : List Point) (inputs : List (List Edge)) (left p : ℕ) (plan : Plan) → IsInstance points inputs → IsPlanOf points inputs plan
    → IsPlanOf points inputs (improved words points inputs left p plan) × (plan_total (improved words points inputs left p plan) ≤ plan_total plan)
