-- A plan that was left while it settles.
use Rattle.std.specs.Prelude.{◌≡◌, Some, List, ◌++◌}
use Rattle.geo_orient.specs.declared.Point.{Point}
use Rattle.edge_table.specs.declared.edge.Edge.{Edge}
use Rattle.flip_list_law.specs.FlipLists.{in_turn}
use Rattle.plan_law.specs.Plans.{Plan, followed_all, Settles}

-- settling makes certain moves in order, and once it has made the first of them the plan is `now`
pub record IsOnTheWay (points : List Point) (plan now : Plan) : Type 0 where
  pub made : List (List Edge)
  pub rest : List (List Edge)
  pub end : Plan
  pub settles : Settles points plan (made ++ rest) end
  pub stands : followed_all points plan (in_turn made) ≡ Some now
