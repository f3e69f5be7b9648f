-- What improvers that draw from the streams of one seed make of a plan.
use Rattle.std.specs.Prelude.{◌≡◌, ℕ, ◌≤◌, Some, List}
use Rattle.rand_core.specs.Steps.{first_words}
use Rattle.rand_pcg.specs.Lcg.{started, increment_of}
use Rattle.rand_pcg.specs.Pcg.{multiplier_64, pcg32}
use Rattle.geo_orient.specs.declared.Point.{Point}
use Rattle.edge_table.specs.declared.edge.Edge.{Edge}
use Rattle.plan_law.specs.Plans.{Plan, followed_all}
use Rattle.plan_law.specs.Improving.{improved}

-- the first eight words of improver p's stream
abbrev pub words_of : ℕ → ℕ → List ℕ
words_of seed p = first_words pcg32 8 (started 64 multiplier_64 seed (increment_of 64 p))

-- the plan is what some of so many improvers made of it, the first ones
pub record IsPartlyImproved (words : ℕ → List ℕ) (points : List Point) (inputs : List (List Edge)) (turns : ℕ) (plan now : Plan) : Type 0 where
  pub made : ℕ
  pub some : made ≤ turns
  pub stands : now ≡ improved words points inputs made 0 plan

-- the edges can be followed one after the other
abbrev pub CanFollow : List Point → Plan → List Edge → Type 0
CanFollow points plan es = (next : Plan) × (followed_all points plan es ≡ Some next)
