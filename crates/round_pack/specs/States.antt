-- What holds of the parts of a track.
use Rattle.std.specs.Prelude.{◌≡◌, ℕ, List}
use Rattle.tri_check.specs.Layouts.{Layout, IsTriangulated}
use Rattle.flip_list_law.specs.declared.Flip.{Flip}
use Rattle.flip_list_law.specs.FlipLists.{IsFlipList, round_numbers}

-- the flips lead from one triangulation to the other, and the numbers are their round numbers
pub record AreKept (start end : Layout) (flips : List Flip) (numbers : List ℕ) : Type 0 where
  pub points : end.points ≡ start.points
  pub triangulated : IsTriangulated start.points start.edges
  pub leads : IsFlipList start.points start.edges flips end.edges
  pub numbered : numbers ≡ round_numbers flips
