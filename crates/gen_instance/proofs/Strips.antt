-- The points by a seed can be swept: each lies in a strip of its own.
use Rattle.std.proofs.Common.{◌≡◌, ◌≢◌, ℕ, zero, suc, ◌+◌, ◌-◌, ◌*◌, ◌%◌, ◌<◌, ◌≤◌, ℤ, pos, ◌<ℤ◌, ◌≤ℤ◌, List, [], ◌∷◌, length, ap, subst, arith}
use Rattle.std.proofs.lemmas.Int.{ints}
use Rattle.geo_orient.specs.declared.Point.{Point}
use Rattle.geo_orient.specs.Reach.{IsInReach}
use Rattle.tri_theory.specs.Points.{point}
use Rattle.sweep_law.specs.Boundaries.{CanBeSwept}
use Rattle.gen_instance.specs.Generated.{words_of, point_by, points_by, points_of}
use Rattle.gen_instance.proofs.Words.{length_points_of}

record IsInStrip (i : ℕ) (p : Point) : Type 0 where
  x_low : pos 0 ≤ℤ p.x
  x_high : p.x <ℤ pos 1048576
  y_low : pos (1000 * i) ≤ℤ p.y
  y_high : p.y <ℤ pos (1000 * i + 1000)

at_least : (n m : ℕ) → n ≤ m → pos n ≤ℤ pos m
at_least n m l = omega (arith, ints)

less : (n m : ℕ) → n < m → pos n <ℤ pos m
less n m l = omega (arith, ints)

in_strip : (i x y : ℕ) → IsInStrip i (point_by i x y)
in_strip i x y = record {
  x_low = at_least 0 (x % 1048576) (omega arith);
  x_high = less (x % 1048576) 1048576 (omega arith);
  y_low = at_least (1000 * i) (1000 * i + y % 1000) (omega arith);
  y_high = less (1000 * i + y % 1000) (1000 * i + 1000) (omega arith);
}

strips_by : (i : ℕ) (words : List ℕ) (k : ℕ) → k < length (points_by i words) → IsInStrip (i + k) (point (points_by i words) k)
strips_by i [] k l = absurd (omega (arith, l))
strips_by i (x ∷ []) k l = absurd (omega (arith, l))
strips_by i (x ∷ y ∷ words) zero l = subst (λ j. IsInStrip j (point_by i x y)) (here i) (in_strip i x y)
  where
    here : (j : ℕ) → j ≡ j + 0
    here j = omega arith
strips_by i (x ∷ y ∷ words) (suc k) l = subst (λ j. IsInStrip j (point (points_by (suc i) words) k)) (there i k) (strips_by (suc i) words k (omega (arith, l)))
  where
    there : (j m : ℕ) → suc j + m ≡ j + suc m
    there j m = omega arith

first_strip : IsInStrip 0 (record { x = pos 0; y = pos 0 })
first_strip = record { x_low = omega (arith, ints); x_high = omega (arith, ints); y_low = omega (arith, ints); y_high = omega (arith, ints) }

second_strip : IsInStrip 1 (record { x = pos 1; y = pos 1000 })
second_strip = record { x_low = omega (arith, ints); x_high = omega (arith, ints); y_low = omega (arith, ints); y_high = omega (arith, ints) }

third_strip : IsInStrip 2 (record { x = pos 0; y = pos 2000 })
third_strip = record { x_low = omega (arith, ints); x_high = omega (arith, ints); y_low = omega (arith, ints); y_high = omega (arith, ints) }

module _ (seed n : ℕ) where
  strips : (k : ℕ) → k < length (points_of seed n) → IsInStrip k (point (points_of seed n) k)
  strips zero l = first_strip
  strips (suc zero) l = second_strip
  strips (suc (suc zero)) l = third_strip
  strips (suc (suc (suc k))) l = subst (λ j. IsInStrip j (point (points_by 3 (words_of seed 0 (2 * (n - 3)))) k)) there (strips_by 3 (words_of seed 0 (2 * (n - 3))) k (omega (arith, l)))
    where
      there : 3 + k ≡ suc (suc (suc k))
      there = omega arith

  apart : (i j : ℕ) (p q : Point) → i < j → IsInStrip i p → IsInStrip j q → p ≢ q
  apart i j p q l P Q e = higher p.y q.y (ap (λ (r : Point). r.y) e) P.y_high Q.y_low
    where
      higher : (y z : ℤ) → y ≡ z → y <ℤ pos (1000 * i + 1000) → pos (1000 * j) ≤ℤ z → ⊥
      higher y z f h k = omega (arith, ints)

  reach : (i : ℕ) (p : Point) → i < 16384 → IsInStrip i p → IsInReach p
  reach i p l P = let a = P.x_low in let b = P.x_high in let c = P.y_low in let d = P.y_high in record {
    x_low = omega (arith, ints);
    x_high = omega (arith, ints);
    y_low = omega (arith, ints);
    y_high = omega (arith, ints);
  }

  pub points_can_be_swept : 3 ≤ n → n ≤ 16384 → CanBeSwept (points_of seed n)
  points_can_be_swept l h = record {
    placed = record {
      distinct = λ i j m k. apart i j (point (points_of seed n) i) (point (points_of seed n) j) m (strips i (omega (arith, m, k))) (strips j k);
      spread = (0, 1, 2, within 0 (omega arith), within 1 (omega arith), within 2 (omega arith), omega (arith, ints));
    };
    reachable = λ i m. reach i (point (points_of seed n) i) (let e = length_points_of seed n l in omega (arith, m, e)) (strips i m);
  }
    where
      within : (k : ℕ) → k < 3 → k < length (points_of seed n)
      within k m = let e = length_points_of seed n l in omega (arith, m, e)
