-- The first of a list with the greatest value.
use Rattle.std.specs.Prelude.{◌≡◌, ℕ, ◌<◌, ◌≤◌, List, [], take, Contains, Option, None, Some, slice_get}
use Rattle.edge_table.specs.declared.edge.Edge.{Edge}
use Rattle.cross_bound.specs.declared.best.Side.{Side}
use Rattle.cross_bound.specs.declared.best.Best.{Best}

-- x stands in the list, none has a greater value, and those before it have lower ones
pub record IsFirstGreatest {X : Type 0} (f : X → ℕ) (xs : List X) (x : X) : Type 0 where
  pub place : ℕ
  pub there : slice_get xs place ≡ Some x
  pub greatest : (y : X) → Contains xs y → f y ≤ f x
  pub first : (y : X) → Contains (take place xs) y → f y < f x

-- the best of the list with its value, where the list has an element
abbrev pub IsBest : (Side × Edge → ℕ) → List (Side × Edge) → Option Best → Type 0
IsBest f xs None = xs ≡ []
IsBest f xs (Some best) = (best.count ≡ f (best.from, best.edge)) × IsFirstGreatest f xs (best.from, best.edge)
