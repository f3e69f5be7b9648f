-- Three legs: schedules from three triangulations to one hub.
use Rattle.std.specs.Prelude.{ℕ, ◌+◌, List, [], ◌∷◌}
use Rattle.geo_orient.specs.declared.Point.{Point}
use Rattle.edge_table.specs.declared.edge.Edge.{Edge}
use Rattle.tri_theory.specs.Triangulations.{IsTriangulation}
use Rattle.tri_theory.specs.Rounds.{Within}

-- a leg: where it begins, and how many rounds it has
pub record Leg : Type 0 where
  pub from : List Edge
  pub rounds : ℕ

-- three legs that begin at triangulations
pub record AreLegs (points : List Point) (x y z : Leg) : Type 0 where
  pub first : IsTriangulation points x.from
  pub second : IsTriangulation points y.from
  pub third : IsTriangulation points z.from

-- some triangulation, the hub, is within the rounds of each leg from where that begins
abbrev pub Meet : List Point → Leg → Leg → Leg → Type 0
Meet points x y z =
    (hub : List Edge) × IsTriangulation points hub × Within points x.from hub x.rounds × Within points y.from hub y.rounds × Within points z.from hub z.rounds

-- a leg, and the rounds of the legs before it
abbrev pub Placed : Type 0
Placed = Leg × ℕ

abbrev pub placed : Leg → Leg → Leg → List Placed
placed x y z = (x, 0) ∷ (y, x.rounds) ∷ (z, x.rounds + y.rounds) ∷ []

abbrev pub all_rounds : Leg → Leg → Leg → ℕ
all_rounds x y z = x.rounds + y.rounds + z.rounds
