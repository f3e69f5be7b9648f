-- What a model of the star formula says: three schedules to one triangulation.
use Rattle.std.proofs.Common.{◌≡◌, ℕ, ◌+◌, Bool, List, length, All, Contains, refl, subst, subst₂, arith}
use Rattle.std.specs.List.{range_with_len}
use Rattle.geo_orient.specs.declared.Point.{Point}
use Rattle.tri_theory.specs.Points.{ArePlaced}
use Rattle.edge_table.specs.declared.edge.Edge.{Edge}
use Rattle.edge_table.specs.Edges.{IsAscending}
use Rattle.tri_theory.specs.Triangulations.{IsTriangulation}
use Rattle.tri_theory.specs.Rounds.{IsSchedule, Within}
use Rattle.formula_law.specs.Frames.{Frame, IsFrame}
use Rattle.log_law.specs.Clauses.{IsModel}
use Rattle.formula_law.specs.Formula.{there, made, round_of}
use Rattle.formula_law.specs.FormulaLaws.{SaysSchedule}
use Rattle.star_law.specs.Legs.{AreLegs, Leg, Meet, Placed, all_rounds, placed}
use Rattle.star_law.specs.StarFormula.{hub_of, leg_rounds}
use Rattle.star_law.specs.StarLaws.{SaysLeg, SaysStar}
use Rattle.star_law.proofs.Renamed.{in_star, renamed_hub, renamed_rounds, renamed_star}
use Rattle.formula_law.proofs.Clauses.{all_of, in_map, in_range}
use Rattle.formula_law.proofs.Traces.{model_trace}
use Rattle.formula_law.proofs.Decodes.{layer_triangulation}
use Rattle.formula_law.proofs.FormulaLaws.{says_schedule}
use Rattle.star_law.proofs.StarModels.{filter_same, own_hub, leg_model}
use Rattle.star_law.proofs.StarDirect.{hub_is, rounds_are}

module _ (points : List Point) (P : ArePlaced points) (F : Frame) (I : IsFrame points F) (x y z : Leg) (L : AreLegs points x y z) (truth : ℕ → Bool) (M : IsModel truth (renamed_star F x y z)) where
  abbrev all : ℕ
  all = all_rounds x y z

  abbrev first : Placed
  first = (x, 0)

  in_first : Contains (placed x y z) first
  in_first = (0, omega arith, refl)

  abbrev own : ℕ → Bool
  own v = truth (in_star F all first v)

  pub hub_triangulation : IsTriangulation points (renamed_hub F truth)
  hub_triangulation = subst (IsTriangulation points) (filter_same (λ e. own (there F x.rounds e)) (λ e. truth (there F 0 e)) F.segments (own_hub points F I x y z truth M first in_first))
      (layer_triangulation points P F I x.from (renamed_hub F truth) x.rounds (λ t e. own (there F t e)) (λ t g. own (made F x.rounds t g)) (model_trace F x.from (renamed_hub F truth) x.rounds own (leg_model points F I x y z truth M first in_first)) x.rounds (omega arith) L.first)

  pub says_leg : (leg : Placed) → Contains (placed x y z) leg → IsTriangulation points leg.0.from → SaysLeg points F all truth leg
  says_leg leg h N = record { count = r.0; ascending = r.1; schedule = r.2 }
    where
      mine : ℕ → Bool
      mine v = truth (in_star F all leg v)

      s : SaysSchedule points F leg.0.from (renamed_hub F truth) leg.0.rounds mine
      s = says_schedule points P F I leg.0.from (renamed_hub F truth) leg.0.rounds N hub_triangulation mine (leg_model points F I x y z truth M leg h)

      by_round : (r : List Edge) → (t : ℕ) × Contains (range_with_len 0 leg.0.rounds) t × (round_of F mine leg.0.rounds t ≡ r) → IsAscending r
      by_round r (t, i, e) = subst IsAscending e (s.ascending t (let l = in_range 0 leg.0.rounds t i in omega arith))

      Says : List (List Edge) → List Edge → Type 0
      Says rounds hub = (length rounds ≡ leg.0.rounds) × All IsAscending rounds × IsSchedule points leg.0.from rounds hub

      r : Says (leg_rounds F all truth leg) (hub_of F truth)
      r = subst₂ Says (rounds_are points F I all leg truth) (hub_is F truth)
          (s.count, all_of IsAscending (renamed_rounds F all truth leg) (λ r i. by_round r (in_map (round_of F mine leg.0.rounds) (range_with_len 0 leg.0.rounds) r i)), s.schedule)

  abbrev second : Placed
  second = (y, x.rounds)

  abbrev third : Placed
  third = (z, x.rounds + y.rounds)

  pub says_first : SaysLeg points F all truth first
  says_first = says_leg first in_first L.first

  pub says_second : SaysLeg points F all truth second
  says_second = says_leg second (1, omega arith, refl) L.second

  pub says_third : SaysLeg points F all truth third
  says_third = says_leg third (2, omega arith, refl) L.third

  pub says_star : SaysStar points F x y z truth
  says_star = record { hub = subst (IsTriangulation points) (hub_is F truth) hub_triangulation; first = says_first; second = says_second; third = says_third }

  within : (leg : Placed) → SaysLeg points F all truth leg → Within points leg.0.from (hub_of F truth) leg.0.rounds
  within leg s = (leg_rounds F all truth leg, let c = s.count in omega (arith, c), s.schedule)

  pub model_meets : Meet points x y z
  model_meets = (hub_of F truth, says_star.hub, within first says_first, within second says_second, within third says_third)
