-- The boundary of the points that a sweep has passed, on each of its sides: what is right of the one is left of the other in the mirror.
use Rattle.std.proofs.Common.{◌≡◌, ◌⊎◌, inl, inr, ℕ, ◌+◌, ◌-◌, ◌<◌, ◌≤◌, ℤ, pos, neg_ℤ, ◌<ℤ◌, ◌≤ℤ◌, List, length, get_or, Contains, refl, sym, subst, arith}
use Rattle.std.proofs.lemmas.Int.{ints}
use native.Mathlib.Decide.{ℕ_discrete}
use Rattle.std.proofs.lemmas.List.Elements.{Contains-get_or}
use Rattle.geo_orient.specs.declared.Point.{Point}
use Rattle.geo_orient.proofs.IntSigns.{IsPos, not_pos}
use Rattle.tri_theory.specs.Points.{turn, Separates}
use Rattle.tri_theory.proofs.Plane.{Plane, mirror, flat_swap}
use Rattle.planar_law.specs.Chains.{link}
use Rattle.planar_law.proofs.Slopes.{Slope}
use Rattle.sweep_law.specs.Boundaries.{IsDirection, CanBeSwept, Side, right, left, IsOn, ArePassed, ComesNext, IsBoundary, IsSeenFrom}
use Rattle.sweep_law.proofs.Heights.{reflected, lt_le}
use Rattle.sweep_law.proofs.Directions.{S, slope, height, higher}
use Rattle.sweep_law.proofs.Ordered.{at_place}
use Rattle.sweep_law.proofs.Sight.{Boundary, Further, Seen, Meet}

same_le : (x y : ℤ) → x ≡ y → x ≤ℤ y
same_le x y e = omega (arith, ints, e)

neg_low : (x y : ℤ) → x ≡ neg_ℤ y → ¬ IsPos x → pos 0 ≤ℤ y
neg_low x y e h = let k = not_pos x h in omega (arith, ints, e, k)

both_ways : (x y : ℤ) → x ≡ neg_ℤ y → pos 0 ≤ℤ y → IsPos x → ⊥
both_ways x y e h k = omega (arith, ints, e, h, k)

module _ (points : List Point) (a b : ℤ) (can : CanBeSwept points) (D : IsDirection a b) where
  abbrev pub sided : Side → Plane
  sided right = S points a b can D
  sided left = mirror (S points a b can D)

  abbrev pub sloped : (side : Side) → Slope (sided side)
  sloped right = slope points a b can D
  sloped left = reflected (S points a b can D) (slope points a b can D)

  abbrev h : ℕ → ℤ
  h = height points a b can D

  -- ---- the side of a way
  pub low_on : (side : Side) (c d s : ℕ) → ¬ IsOn side points c d s → pos 0 ≤ℤ (sided side).o c d s
  low_on right c d s k = neg_low (turn points d c s) (turn points c d s) ((S points a b can D).swap c d s) k
  low_on left c d s k = neg_low (turn points c d s) (turn points d c s) ((S points a b can D).swap d c s) k

  pub not_on : (side : Side) (c d s : ℕ) → pos 0 ≤ℤ (sided side).o c d s → ¬ IsOn side points c d s
  not_on right c d s k l = both_ways (turn points d c s) (turn points c d s) ((S points a b can D).swap c d s) k l
  not_on left c d s k l = both_ways (turn points c d s) (turn points d c s) ((S points a b can D).swap d c s) k l

  pub flat_on : (side : Side) (c d s : ℕ) → turn points c d s ≡ pos 0 → (sided side).o c d s ≡ pos 0
  flat_on right c d s e = e
  flat_on left c d s e = flat_swap (S points a b can D) c d s e

  pub on_flat : (side : Side) (c d s : ℕ) → (sided side).o c d s ≡ pos 0 → turn points c d s ≡ pos 0
  on_flat right c d s e = e
  on_flat left c d s e = flat_swap (S points a b can D) d c s e

  -- ---- the boundary
  module _ (earlier : List ℕ) (A : ArePassed points a b earlier) where
    up : (i j : ℕ) → i < j → j < length earlier → h (link earlier i) <ℤ h (link earlier j)
    up i j l k = higher points a b can D (link earlier i) (link earlier j) (A.named (link earlier i) (Contains-get_or earlier i 0 (omega (arith, l, k)))) (A.named (link earlier j) (Contains-get_or earlier j 0 k)) (A.ascend i j 0 l k)

    up_to : (i j : ℕ) → i ≤ j → j < length earlier → h (link earlier i) ≤ℤ h (link earlier j)
    up_to i j l k = by_test (ℕ_discrete i j)
      where
        by_test : Dec (i ≡ j) → h (link earlier i) ≤ℤ h (link earlier j)
        by_test (yes e) = subst (λ t. h (link earlier i) ≤ℤ h (link earlier t)) e (same_le (h (link earlier i)) (h (link earlier i)) refl)
        by_test (no ne) = lt_le (h (link earlier i)) (h (link earlier j)) (up i j (omega (arith, l, ne)) k)

    pub from_first : (s : ℕ) → Contains earlier s → h (link earlier 0) ≤ℤ h s
    from_first s es = by_place (at_place earlier 0 s es)
      where
        by_place : (k : ℕ) × (k < length earlier) × (s ≡ get_or earlier k 0) → h (link earlier 0) ≤ℤ h s
        by_place (k, l, e) = subst (λ t. h (link earlier 0) ≤ℤ h t) (sym e) (up_to 0 k (omega arith) l)

    pub to_last : (s k : ℕ) → Contains earlier s → k + 1 ≡ length earlier → h s ≤ℤ h (link earlier k)
    to_last s k es end = by_place (at_place earlier 0 s es)
      where
        by_place : (i : ℕ) × (i < length earlier) × (s ≡ get_or earlier i 0) → h s ≤ℤ h (link earlier k)
        by_place (i, l, e) = subst (λ t. h t ≤ℤ h (link earlier k)) (sym e) (up_to i k (omega (arith, l, end)) (omega (arith, end)))

    module _ (side : Side) (chain : List ℕ) (I : IsBoundary side points a b earlier chain) where
      in_chain : (j : ℕ) → j < length chain → Contains chain (link chain j)
      in_chain j l = Contains-get_or chain j 0 l

      in_range : (j : ℕ) → j < length chain → link chain j < length points
      in_range j l = A.named (link chain j) (I.members (link chain j) (in_chain j l))

      rises : (i j : ℕ) → i < j → j < length chain → h (link chain i) <ℤ h (link chain j)
      rises i j l k = higher points a b can D (link chain i) (link chain j) (in_range i (omega (arith, l, k))) (in_range j k) (I.ascends i j 0 l k)

      lowest : (s : ℕ) → Contains earlier s → h (link chain 0) ≤ℤ h s
      lowest s es = subst (λ t. h t ≤ℤ h s) (sym I.first) (from_first s es)

      pub some_earlier : 0 < length earlier
      some_earlier = by_place (I.members (link chain 0) (in_chain 0 I.some))
        where
          by_place : Contains earlier (link chain 0) → 0 < length earlier
          by_place (k, l, e) = omega (arith, l)

      highest : (s j : ℕ) → Contains earlier s → j + 1 ≡ length chain → h s ≤ℤ h (link chain j)
      highest s j es e = subst (λ t. h s ≤ℤ h t) (sym (I.last j (length earlier - 1) e end)) (to_last s (length earlier - 1) es end)
        where
          end : (length earlier - 1) + 1 ≡ length earlier
          end = omega (arith, some_earlier)

      closed : (j s : ℕ) → j + 1 < length chain → Contains earlier s → pos 0 ≤ℤ (sided side).o (link chain j) (link chain (j + 1)) s
      closed j s l es = low_on side (link chain j) (link chain (j + 1)) s (I.closed j s l es)

      whole : (j s : ℕ) → j + 1 < length chain → Contains earlier s → (sided side).o (link chain j) (link chain (j + 1)) s ≡ pos 0 → (k : ℕ) × (k < length chain) × (s ≡ link chain k)
      whole j s l es e = at_place chain 0 s (I.whole j s l es (on_flat side (link chain j) (link chain (j + 1)) s e))

    pub boundary : (side : Side) (chain : List ℕ) → IsBoundary side points a b earlier chain → Boundary (sided side) (sloped side) (Contains earlier) (link chain) (length chain)
    boundary right chain I = record {
      some = I.some;
      named = A.named;
      member = λ j l. I.members (link chain j) (in_chain right chain I j l);
      rises = rises right chain I;
      lowest = lowest right chain I;
      highest = highest right chain I;
      closed = closed right chain I;
      whole = whole right chain I;
    }
    boundary left chain I = record {
      some = I.some;
      named = A.named;
      member = λ j l. I.members (link chain j) (in_chain left chain I j l);
      rises = rises left chain I;
      lowest = lowest left chain I;
      highest = highest left chain I;
      closed = closed left chain I;
      whole = whole left chain I;
    }

    pub further : (side : Side) (p : ℕ) → ComesNext points a b earlier p → Further (sided side) (sloped side) (Contains earlier) p
    further right p N = record { named = N.named; above = λ s es. higher points a b can D s p (A.named s es) N.named (N.after s es) }
    further left p N = record { named = N.named; above = λ s es. higher points a b can D s p (A.named s es) N.named (N.after s es) }

  -- ---- what is seen
  pub seen_to : (side : Side) (chain : List ℕ) (p j : ℕ) → IsSeenFrom side points chain p j → Seen (sided side) (link chain) (length chain) p j
  seen_to right chain p j V = record { within = V.within; ways = V.seen }
  seen_to left chain p j V = record { within = V.within; ways = V.seen }

  pub seen_from : (side : Side) (chain : List ℕ) (p j : ℕ) → Seen (sided side) (link chain) (length chain) p j → IsSeenFrom side points chain p j
  seen_from right chain p j V = record { within = V.within; seen = V.ways }
  seen_from left chain p j V = record { within = V.within; seen = V.ways }

  -- ---- crossings and points between don't depend on the side
  swap_first : {A B C E : Type 0} → (A × B) ⊎ (C × E) → (C × E) ⊎ (A × B)
  swap_first (inl h) = inr h
  swap_first (inr h) = inl h

  pub meet_to : (side : Side) (r p c d : ℕ) → Meet (S points a b can D) r p c d → Meet (sided side) r p c d
  meet_to right r p c d m = m
  meet_to left r p c d m = (swap_first m.0, swap_first m.1)

  pub meet_from : (side : Side) (r p c d : ℕ) → Meet (sided side) r p c d → Meet (S points a b can D) r p c d
  meet_from right r p c d m = m
  meet_from left r p c d m = (swap_first m.0, swap_first m.1)

  pub between_to : (side : Side) (r p s : ℕ) → Separates points r p s → (sided side).between r p s
  between_to right r p s m = m
  between_to left r p s m = m

  pub between_from : (side : Side) (r p s : ℕ) → (sided side).between r p s → Separates points r p s
  between_from right r p s m = m
  between_from left r p s m = m
