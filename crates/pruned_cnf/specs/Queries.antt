-- What a pruned formula is asked of, and what is answered.
use Rattle.std.specs.Prelude.{ℕ, ◌+◌, ◌≤◌, Bool, ◌&&◌, Option, Some, None, cond, List, length, Contains}
use Rattle.geo_orient.specs.declared.Point.{Point}
use Rattle.edge_table.specs.declared.edge.Edge.{Edge}
use Rattle.tri_theory.specs.Points.{ArePlaced}
use Rattle.tri_theory.specs.Triangulations.{IsTriangulation}
use Rattle.tri_theory.specs.Crossings.{crossings}
use Rattle.crossing_law.specs.Digits.{digits}
use Rattle.log_law.specs.Clauses.{Clause, Formula}
use Rattle.formula_law.specs.Frames.{Pair, Frame, IsFrame}
use Rattle.formula_law.specs.PrunedFormula.{Live, live_between, is_live_flip, live_there, live_made, live_variable_count, pruned_formula, live_rounds_of}
use Rattle.formula_law.specs.RefutationLaws.{pruned}

-- points with the lists of their frame, two triangulations of them, and a number of rounds from the one to the other
pub record Query : Type 0 where
  pub points : List Point
  pub frame : Frame
  pub from : List Edge
  pub to : List Edge
  pub rounds : ℕ

-- the points are few, the lists are theirs, and the rounds are not many
pub record IsQuery (q : Query) : Type 0 where
  pub few : length q.points ≤ 64
  pub placed : ArePlaced q.points
  pub frame : IsFrame q.points q.frame
  pub from : IsTriangulation q.points q.from
  pub to : IsTriangulation q.points q.to
  pub rounds : q.rounds ≤ 400_000

-- the places where a segment can be there
abbrev pub live_in : Query → Live
live_in q = live_between q.points q.from q.to q.rounds

-- the flips that can be made in a round
abbrev pub is_live_flip_in : Query → ℕ → Pair → Bool
is_live_flip_in q t g = is_live_flip q.frame (live_in q) t g

-- the segment can be there before round t and after it
abbrev pub stays_in : Query → ℕ → Edge → Bool
stays_in q t s = live_in q t s && live_in q (t + 1) s

-- the number of "segment e is there after t rounds"
abbrev pub place_in : Query → ℕ → Edge → ℕ
place_in q t e = live_there q.frame (live_in q) q.rounds t e

-- the number of "flip g is made in round t"
abbrev pub flip_in : Query → ℕ → Pair → ℕ
flip_in q t g = live_made q.frame (live_in q) q.rounds t g

-- the same, where that place is live
abbrev pub place_number : Query → ℕ → Edge → Option ℕ
place_number q t e = cond (live_in q t e) (Some (place_in q t e)) None

-- the same, where that flip is live
abbrev pub flip_number : Query → ℕ → Pair → Option ℕ
flip_number q t g = cond (is_live_flip_in q t g) (Some (flip_in q t g)) None

abbrev pub variables_in : Query → ℕ
variables_in q = live_variable_count q.frame (live_in q) q.rounds

abbrev pub clauses_in : Query → List Clause
clauses_in q = pruned_formula q.frame (live_in q) q.from q.to q.rounds

-- the clauses, with the number of their variables
abbrev pub formula_in : Query → Formula
formula_in q = pruned q.frame (live_in q) q.from q.to q.rounds

-- the rounds that an assignment tells
abbrev pub rounds_in : Query → (ℕ → Bool) → List (List Edge)
rounds_in q truth = live_rounds_of q.frame (live_in q) truth q.rounds

-- no segment is crossed by members that have a number of more digits than this
abbrev pub IsMostDigits : Query → List Edge → ℕ → Type 0
IsMostDigits q edges most = (e : Edge) → Contains q.frame.segments e → digits (crossings q.points edges e) ≤ most
