-- The laws of what can be tested side by side. Each is the contract of a function of the crate, so each is proved.
use Rattle.std.specs.Prelude.{◌↔◌, ℕ, ℤ, List}
use Rattle.geo_orient.specs.declared.Point.{Point}
use Rattle.edge_table.specs.declared.edge.Edge.{Edge}
use Rattle.tri_theory.specs.Points.{ArePlaced}
use Rattle.tri_theory.specs.Triangulations.{IsTriangulation}
use Rattle.planar_law.specs.Patches.{IsPatched}
use Rattle.planar_law.specs.Chains.{AreReachable, AreKeys, IsChain, IsHullWay, IsLinked}

-- triangles that fit together at their sides are a triangulation: no two members cross, and no triangle has a point in it
abbrev pub PatchesAreTriangulations : Type 0
PatchesAreTriangulations = (points : List Point) (edges : List Edge) (third : ℕ → ℕ → ℕ) → ArePlaced points → IsPatched points edges third → IsTriangulation points edges

-- the sides of a chain are the ways in its direction along the hull
abbrev pub ChainsAreHulls : Type 0
ChainsAreHulls =
    (points : List Point) (keys : List ℤ) (chain : List ℕ) (a b : ℕ) → ArePlaced points → AreReachable points → AreKeys points keys → IsChain points keys chain
    → IsHullWay points keys a b ↔ IsLinked chain a b
