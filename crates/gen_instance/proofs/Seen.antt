-- What is seen of a chain, place by place.
use Rattle.std.proofs.Common.{◌≡◌, ℕ, ◌+◌, ◌-◌, ◌<◌, ◌≤◌, List, length, subst, arith}
use native.Mathlib.Decide.{dec_le}
use Rattle.geo_orient.specs.declared.Point.{Point}
use Rattle.planar_law.specs.Chains.{link}
use Rattle.sweep_law.specs.Boundaries.{Side, IsOn, IsSeenFrom}

-- one place more
pub seen_more : (side : Side) (points : List Point) (chain : List ℕ) (p j : ℕ) → IsSeenFrom side points chain p j → 0 < j → IsOn side points (link chain (j - 1)) (link chain j) p → IsSeenFrom side points chain p (j - 1)
seen_more side points chain p j S some on = record { within = let w = S.within in omega (arith, w); seen = λ i l m. by_test i l m (dec_le j i) }
  where
    by_test : (i : ℕ) → j - 1 ≤ i → i + 1 < length chain → Dec (j ≤ i) → IsOn side points (link chain i) (link chain (i + 1)) p
    by_test i l m (yes h) = S.seen i h m
    by_test i l m (no n) = subst (λ k. IsOn side points (link chain k) (link chain (k + 1)) p) here (subst (λ k. IsOn side points (link chain (j - 1)) (link chain k) p) next on)
      where
        here : j - 1 ≡ i
        here = omega arith

        next : j ≡ j - 1 + 1
        next = omega arith
