-- Each law, proved, under its name.
use Rattle.std.proofs.Common.{◌≡◌, ◌⊎◌, inl, inr, ℕ, ◌+◌, ◌<◌, ℤ, List, [], ◌∷◌, length, Contains, refl, subst, arith}
use Rattle.geo_orient.specs.declared.Point.{Point}
use Rattle.tri_theory.specs.Points.{point}
use Rattle.planar_law.specs.Chains.{link}
use Rattle.sweep_law.specs.Sweeps.{ComesBefore}
use Rattle.sweep_law.specs.Boundaries.{Side, right, left, IsBoundary}
use Rattle.sweep_law.specs.Laws.{SweepOrdersAreUnique, FirstPointsAreAlone, SweepsJoinWhatIsSeen, BoundariesGrow}
use Rattle.sweep_law.proofs.Directions.{not_both_before}
use Rattle.sweep_law.proofs.Ordered.{one_order, in_cases, in_none}
use Rattle.sweep_law.proofs.Joins.{joins_what_is_seen}
use Rattle.sweep_law.proofs.Growth.{swept_with}

pub sweep_orders_are_unique : SweepOrdersAreUnique
sweep_orders_are_unique points a b order other O P =
    one_order (λ i j. ComesBefore a b (point points i) (point points j)) (λ i j. not_both_before a b (point points i) (point points j)) order other O.ascends P.ascends
    (λ i h. P.all i (O.named i h)) (λ i h. O.all i (P.named i h))

alone : (side : Side) (points : List Point) (a b : ℤ) (p : ℕ) → IsBoundary side points a b (p ∷ []) (p ∷ [])
alone side points a b p = record {
  some = omega arith;
  members = λ i h. h;
  ascends = λ i j d l k. absurd (omega (arith, l, k));
  first = refl;
  last = λ j k e f. subst (λ i. link (p ∷ []) j ≡ link (p ∷ []) i) (same j k e f) refl;
  closed = λ j s l h. absurd (omega (arith, l));
  whole = λ j s l h e. absurd (omega (arith, l));
}
  where
    same : (j k : ℕ) → j + 1 ≡ length (p ∷ []) → k + 1 ≡ length (p ∷ []) → j ≡ k
    same j k e f = omega (arith, e, f)

pub first_points_are_alone : FirstPointsAreAlone
first_points_are_alone points a b p N = record {
  passed = record { named = λ i h. by_case i (in_cases i p [] h); ascend = λ i j d l k. absurd (omega (arith, l, k)) };
  among = λ f h. absurd (in_none f h);
  on_right = alone right points a b p;
  on_left = alone left points a b p;
  rights_listed = λ j l. absurd (omega (arith, l));
  lefts_listed = λ j l. absurd (omega (arith, l));
}
  where
    by_case : (i : ℕ) → (p ≡ i) ⊎ Contains [] i → i < length points
    by_case i (inl e) = subst (λ t. t < length points) e N.named
    by_case i (inr h) = absurd (in_none i h)

pub sweeps_join_what_is_seen : SweepsJoinWhatIsSeen
sweeps_join_what_is_seen points a b earlier listed rights lefts p i j taken can D W N first_right first_left K = joins_what_is_seen points a b can D earlier listed rights lefts W p N i j taken first_right first_left K

pub boundaries_grow : BoundariesGrow
boundaries_grow points a b earlier listed rights lefts p i j taken can D W N first_right first_left K = swept_with points a b can D earlier W.passed p N listed rights lefts W i j taken first_right first_left K
