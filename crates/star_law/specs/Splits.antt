-- Splits of a number into three, and lower bounds for the rounds from three triangulations to one centre.
use Rattle.std.specs.Prelude.{◌≡◌, ◌⊎◌, ℕ, ◌+◌, ◌-◌, ◌<◌, ◌≤◌, List, length, map, flat_map}
use Rattle.std.specs.List.{range_with_len}
use Rattle.geo_orient.specs.declared.Point.{Point}
use Rattle.edge_table.specs.declared.edge.Edge.{Edge}
use Rattle.tri_theory.specs.Rounds.{IsSchedule}
use Rattle.star_law.specs.Legs.{Leg, Meet}

abbrev pub Split : Type 0
Split = ℕ × ℕ × ℕ

abbrev pub split_sum : Split → ℕ
split_sum split = split.0 + split.1 + split.2

-- all three numbers that sum up to n, by the first and then by the second
abbrev pub splits : ℕ → List Split
splits n = flat_map (λ a. map (λ b. (a, b, n - a - b)) (range_with_len 0 (n - a + 1))) (range_with_len 0 (n + 1))

abbrev pub IsSplitBefore : Split → Split → Type 0
IsSplitBefore p q = (p.0 < q.0) ⊎ ((p.0 ≡ q.0) × (p.1 < q.1))

abbrev pub leg_of : List Edge → ℕ → Leg
leg_of from rounds = record { from = from; rounds = rounds }

-- legs of these lengths from the three meet
abbrev pub SplitMeets : List Point → List Edge → List Edge → List Edge → Split → Type 0
SplitMeets points A B C split = Meet points (leg_of A split.0) (leg_of B split.1) (leg_of C split.2)

-- schedules from the three to one centre have at least this many rounds together
abbrev pub IsLowerOfThree : List Point → List Edge → List Edge → List Edge → ℕ → Type 0
IsLowerOfThree points A B C lower =
    (centre : List Edge) (f g h : List (List Edge)) → IsSchedule points A f centre → IsSchedule points B g centre → IsSchedule points C h centre → lower ≤ length f + length g + length h
