-- Points with some triangulations of them as inputs, each with a weight, within the limits.
use Rattle.std.specs.Prelude.{◌≡◌, ℕ, ◌≤◌, List, length, map, sum, All, Contains, Some, slice_get}
use Rattle.geo_orient.specs.declared.Point.{Point}
use Rattle.edge_table.specs.declared.edge.Edge.{Edge}
use Rattle.tri_theory.specs.Points.{ArePlaced}
use Rattle.tri_theory.specs.Triangulations.{IsTriangulation}
use Rattle.tri_theory.specs.Rounds.{AreWeights}
use Rattle.tri_check.specs.Layouts.{Layout, AreInReach}

-- what is seen of an instance: the bytes of its name, its points, the edges of each input, and the weight of each
pub record Problem : Type 0 where
  pub uid : List ℕ
  pub points : List Point
  pub inputs : List (List Edge)
  pub weights : List ℕ

-- the points are within the limits, distinct and not all on one line, and each input is a triangulation of them
pub record IsProblem (points : List Point) (inputs : List (List Edge)) : Type 0 where
  pub some_points : 3 ≤ length points
  pub few_points : length points ≤ 16384
  pub some_input : 1 ≤ length inputs
  pub few_inputs : length inputs ≤ 256
  pub in_reach : AreInReach points
  pub placed : ArePlaced points
  pub triangulated : (edges : List Edge) → Contains inputs edges → IsTriangulation points edges

-- one weight for each input, from 1 to 16, and at most 256 in all
pub record AreFewWeights (inputs : List (List Edge)) (weights : List ℕ) : Type 0 where
  pub weighed : AreWeights inputs weights
  pub small : All (λ w. w ≤ 16) weights
  pub few : sum weights ≤ 256

-- the edges of each triangulation
abbrev pub all_edges : List Layout → List (List Edge)
all_edges layouts = map (λ t. t.edges) layouts

-- triangulations with weights that are the inputs of one instance: all are of its points
pub record AreInputs (points : List Point) (layouts : List Layout) (weights : List ℕ) : Type 0 where
  pub problem : IsProblem points (all_edges layouts)
  pub shared : (k : ℕ) (t : Layout) → slice_get layouts k ≡ Some t → t.points ≡ points
  pub weighed : AreFewWeights (all_edges layouts) weights
