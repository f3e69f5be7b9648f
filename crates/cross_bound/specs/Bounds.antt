-- The bound of two triangulations by the edge that the most members of the other one cross.
use Rattle.std.specs.Prelude.{◌≡◌, ◌≢◌, ℕ, ◌<◌, List, ◌++◌, map}
use Rattle.geo_orient.specs.declared.Point.{Point}
use Rattle.edge_table.specs.declared.edge.Edge.{Edge}
use Rattle.tri_theory.specs.Crossings.{crossings}
use Rattle.tri_theory.specs.Rounds.{Within}
use Rattle.crossing_law.specs.Digits.{digits}
use Rattle.cross_bound.specs.declared.best.Side.{Side}
use Rattle.cross_bound.specs.declared.best.Side.TheVariants.{First, Second}
use Rattle.cross_bound.specs.declared.bound.CrossBound.{CrossBound}
use Rattle.cross_bound.specs.declared.bound.CrossBound.TheVariants.{Same, Crossed}
use Rattle.cross_bound.specs.Best.{IsFirstGreatest}

-- the edges of both triangulations: those of the first one, and then those of the second one, in edge order
abbrev pub edges_of_both : List Edge → List Edge → List (Side × Edge)
edges_of_both a b = map (λ e. (First, e)) a ++ map (λ e. (Second, e)) b

-- how many members of the other triangulation cross an edge of one
abbrev pub crossed_by_other : List Point → List Edge → List Edge → Side × Edge → ℕ
crossed_by_other points a b (First, e) = crossings points b e
crossed_by_other points a b (Second, e) = crossings points a e

-- the two are the same, or they aren't, and this is the first edge that the most members of the other one cross, with their number and the number of its binary digits
abbrev pub IsCrossBound : List Point → List Edge → List Edge → CrossBound → Type 0
IsCrossBound points a b Same = a ≡ b
IsCrossBound points a b (Crossed from edge count lower) =
    (a ≢ b) × IsFirstGreatest (crossed_by_other points a b) (edges_of_both a b) (from, edge) × (count ≡ crossed_by_other points a b (from, edge)) × (lower ≡ digits count)

-- fewer rounds than the bound says lead from neither to the other
abbrev pub KeepsApart : List Point → List Edge → List Edge → CrossBound → Type 0
KeepsApart points a b Same = Unit {0}
KeepsApart points a b (Crossed from edge count lower) = (k : ℕ) → k < lower → (¬ Within points a b k) × (¬ Within points b a k)
