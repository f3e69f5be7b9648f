-- The sides of a boundary.
use Rattle.sweep_law.specs.Boundaries.{right, left}
use Rattle.sweep_law.specs.Boundaries as law
use Rattle.gen_instance.specs.declared.boundary.Side.{Side}
use Rattle.gen_instance.specs.declared.boundary.Side.TheVariants.{Right, Left}

-- the side as the laws name it
abbrev pub side_of : Side → law.Side
side_of Right = right
side_of Left = left
