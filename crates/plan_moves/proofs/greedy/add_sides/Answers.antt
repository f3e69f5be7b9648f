use Rattle.std.proofs.Common.{◌≢◌, ◌⊎◌, inl, inr, Contains}
use Rattle.replay.specs.Independent.{ShareTriangle}
use Rattle.replay.specs.Steps.{IsOuterSide}
use Rattle.replay.proofs.Quads.{corners_apart}
use Rattle.replay.proofs.Shared.{shares_side}
use Rattle.plan_moves.proofs.Adding.{four_added}
use Rattle.plan_moves.proofs.greedy.add_sides.Goals as goal

pub add_side-requires : goal.add_side-requires
add_side-requires c = (corners_apart _ c.points.ensures.triangulation.placed _ c.points.ensures.triangulation.triangulation c.args.e c.in-Some.q c.in-Some.ensures.some).ab

pub add_side-requires-in-Some : goal.add_side-requires-in-Some
add_side-requires-in-Some c = (corners_apart _ c.points.ensures.triangulation.placed _ c.points.ensures.triangulation.triangulation c.args.e c.in-Some.q c.in-Some.ensures.some).bc

pub add_side-requires-in-Some-2 : goal.add_side-requires-in-Some-2
add_side-requires-in-Some-2 c = (corners_apart _ c.points.ensures.triangulation.placed _ c.points.ensures.triangulation.triangulation c.args.e c.in-Some.q c.in-Some.ensures.some).cd

pub add_side-requires-in-Some-3 : goal.add_side-requires-in-Some-3
add_side-requires-in-Some-3 c = (corners_apart _ c.points.ensures.triangulation.placed _ c.points.ensures.triangulation.triangulation c.args.e c.in-Some.q c.in-Some.ensures.some).da

pub returns : goal.returns
returns c f o =
    four_added c.in-Some.q c.args.sides.now.items c.add_side.new.sides.items c.add_side-in-Some.new.sides.items c.add_side-in-Some-2.new.sides.items c.add_side-in-Some-3.new.sides.items
    c.in_ok-add_side-in-Some.ensures c.in_ok-add_side-in-Some-2.ensures c.in_ok-add_side-in-Some-3.ensures c.in_ok-add_side-in-Some-4.ensures f (by_cases o)
  where
    by_cases : Contains c.args.sides.now.items f ⊎ ((f ≢ c.args.e) × ShareTriangle c.args.mesh.now.points c.args.mesh.now.edges c.args.e f) → Contains c.args.sides.now.items f ⊎ IsOuterSide c.in-Some.q f
    by_cases (inl h) = inl h
    by_cases (inr (n, s)) = inr (shares_side _ c.points.ensures.triangulation.placed _ c.points.ensures.triangulation.triangulation c.args.e f c.in-Some.q c.in-Some.ensures.some n s)
