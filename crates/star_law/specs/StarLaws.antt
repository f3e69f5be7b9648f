-- The laws of the star formula: a model says three schedules to one triangulation, three such schedules have a model, and a log that refutes it shows that there are none.
use Rattle.std.specs.Prelude.{◌≡◌, ◌↔◌, ℕ, ◌+◌, Bool, List, length, All}
use Rattle.geo_orient.specs.declared.Point.{Point}
use Rattle.edge_table.specs.Edges.{IsAscending}
use Rattle.tri_theory.specs.Points.{ArePlaced}
use Rattle.tri_theory.specs.Triangulations.{IsTriangulation}
use Rattle.tri_theory.specs.Rounds.{IsSchedule}
use Rattle.log_law.specs.Clauses.{IsModel, IsFormula}
use Rattle.log_law.specs.Logs.{Line, Refutes}
use Rattle.formula_law.specs.Frames.{Frame, IsFrame}
use Rattle.star_law.specs.Legs.{Leg, AreLegs, Meet, Placed, all_rounds}
use Rattle.star_law.specs.StarFormula.{star_formula, star_clause_count, star, hub_of, leg_rounds}

-- what an assignment says of a leg: as many rounds as it has, each in order, and they are a schedule to the hub
pub record SaysLeg (points : List Point) (F : Frame) (total : ℕ) (truth : ℕ → Bool) (leg : Placed) : Type 0 where
  pub count : length (leg_rounds F total truth leg) ≡ leg.0.rounds
  pub ascending : All IsAscending (leg_rounds F total truth leg)
  pub schedule : IsSchedule points leg.0.from (leg_rounds F total truth leg) (hub_of F truth)

-- and of all three: the hub is a triangulation, and each leg leads to it
pub record SaysStar (points : List Point) (F : Frame) (x y z : Leg) (truth : ℕ → Bool) : Type 0 where
  pub hub : IsTriangulation points (hub_of F truth)
  pub first : SaysLeg points F (all_rounds x y z) truth (x, 0)
  pub second : SaysLeg points F (all_rounds x y z) truth (y, x.rounds)
  pub third : SaysLeg points F (all_rounds x y z) truth (z, x.rounds + y.rounds)

abbrev pub ModelsSayStars : Type 0
ModelsSayStars =
    (points : List Point) (F : Frame) (x y z : Leg) (truth : ℕ → Bool) → ArePlaced points → IsFrame points F → AreLegs points x y z
    → IsModel truth (star_formula F x y z) → SaysStar points F x y z truth

-- the star formula has a model exactly where the legs meet
abbrev pub ModelsMeet : Type 0
ModelsMeet =
    (points : List Point) (F : Frame) (x y z : Leg) → ArePlaced points → IsFrame points F → AreLegs points x y z
    → ((truth : ℕ → Bool) × IsModel truth (star_formula F x y z)) ↔ Meet points x y z

-- so where a log refutes it, they don't
abbrev pub RefutedStarsDontMeet : Type 0
RefutedStarsDontMeet =
    (points : List Point) (F : Frame) (x y z : Leg) (log : List Line) → ArePlaced points → IsFrame points F → AreLegs points x y z → Refutes (star F x y z) log → ¬ Meet points x y z

-- it has as many clauses as its count says
abbrev pub StarClausesAreCounted : Type 0
StarClausesAreCounted =
    (points : List Point) (F : Frame) (x y z : Leg) → ArePlaced points → IsFrame points F → length (star_formula F x y z) ≡ star_clause_count F (all_rounds x y z)

-- each clause names distinct variables, from 1 to their count
abbrev pub StarsFit : Type 0
StarsFit = (points : List Point) (F : Frame) (x y z : Leg) → IsFrame points F → IsFormula (star F x y z)
