-- The numbers of a star's variables: three regions, where each variable goes, and that no two of a leg go to one.
use Rattle.std.proofs.Common.{◌≡◌, ◌⊎◌, inl, inr, ℕ, ◌+◌, ◌-◌, ◌*◌, ◌<◌, ◌≤◌, true, false, ltb, length, Contains, refl, ap, ◌∙◌, arith}
use Rattle.std.specs.List.{position_or_len}
use Rattle.std.proofs.Math.Nat.{mul-le-mul_right}
use Rattle.std.proofs.lemmas.Bool.{ltb-true, ltb-false, lt-ltb, le-ltb}
use Rattle.edge_table.specs.declared.edge.Edge.{Edge}
use Rattle.formula_law.specs.Frames.{Pair, Frame}
use Rattle.edge_table.specs.Edges.{is_edge}
use Rattle.formula_law.specs.Formula.{is_pair, there, made, variable_count}
use Rattle.star_law.specs.Legs.{Placed}
use Rattle.star_law.specs.StarFormula.{star_variable_count}
use Rattle.star_law.proofs.Renamed.{in_star}
use Rattle.formula_law.proofs.Clauses.{true_or_false}
use Rattle.formula_law.proofs.EdgeTests.{edge_place}

module _ (F : Frame) (total : ℕ) (leg : Placed) where
  abbrev s : ℕ
  s = length F.segments

  abbrev w : ℕ
  w = length F.flips

  abbrev k : ℕ
  k = leg.0.rounds

  abbrev p : ℕ
  p = leg.1

  pub in_layers : (v : ℕ) → v ≤ k * s → in_star F total leg v ≡ (1 + p) * s + v
  in_layers v l = rw (lt-ltb v (k * s + 1) (omega arith)) refl

  pub in_hub : (v : ℕ) → k * s < v → v ≤ (k + 1) * s → in_star F total leg v ≡ v - k * s
  in_hub v l m = rw (le-ltb v (k * s + 1) (omega arith), lt-ltb v ((k + 1) * s + 1) (omega arith)) refl

  pub in_flips : (v : ℕ) → (k + 1) * s < v → in_star F total leg v ≡ (1 + total) * s + p * w + (v - (k + 1) * s)
  in_flips v l = rw (le-ltb v (k * s + 1) (omega arith), le-ltb v ((k + 1) * s + 1) (omega arith)) refl

  -- a variable in the layers before the hub, in the hub, or of a flip
  pub data Region (v : ℕ) : Type 0 where
    Early : v ≤ k * s → in_star F total leg v ≡ (1 + p) * s + v → Region v
    Hub : k * s < v → v ≤ (k + 1) * s → in_star F total leg v ≡ v - k * s → Region v
    Late : (k + 1) * s < v → in_star F total leg v ≡ (1 + total) * s + p * w + (v - (k + 1) * s) → Region v

  pub region : (v : ℕ) → Region v
  region v = by_tests (true_or_false (ltb v (k * s + 1))) (true_or_false (ltb v ((k + 1) * s + 1)))
    where
      by_tests : (ltb v (k * s + 1) ≡ true) ⊎ (ltb v (k * s + 1) ≡ false) → (ltb v ((k + 1) * s + 1) ≡ true) ⊎ (ltb v ((k + 1) * s + 1) ≡ false) → Region v
      by_tests (inl e) _ = let l = ltb-true v (k * s + 1) e in Early (omega (arith, l)) (in_layers v (omega (arith, l)))
      by_tests (inr e) (inl f) = let l = ltb-false v (k * s + 1) e in let m = ltb-true v ((k + 1) * s + 1) f in Hub (omega (arith, l)) (omega (arith, m)) (in_hub v (omega (arith, l)) (omega (arith, m)))
      by_tests (inr e) (inr f) = let l = ltb-false v ((k + 1) * s + 1) f in Late (omega (arith, l)) (in_flips v (omega (arith, l)))

  -- ---- where the formula's variables go
  pub layer_number : (t : ℕ) (e : Edge) → Contains F.segments e → t < k → in_star F total leg (there F t e) ≡ (1 + p + t) * s + position_or_len (is_edge e) F.segments + 1
  layer_number t e h l = by_place (position_or_len (is_edge e) F.segments) (edge_place F.segments e (0, 0) h).0
    where
      by_place : (n : ℕ) → n < s → in_star F total leg (t * s + n + 1) ≡ (1 + p + t) * s + n + 1
      by_place n lt =
          let rows : (t + 1) * s ≤ k * s = mul-le-mul_right s (omega arith) in
          let e = in_layers (t * s + n + 1) (omega (arith, rows)) in
          omega (arith, e)

  pub hub_number : (e : Edge) → Contains F.segments e → in_star F total leg (there F k e) ≡ position_or_len (is_edge e) F.segments + 1
  hub_number e h = by_place (position_or_len (is_edge e) F.segments) (edge_place F.segments e (0, 0) h).0
    where
      by_place : (n : ℕ) → n < s → in_star F total leg (k * s + n + 1) ≡ n + 1
      by_place n lt = let e = in_hub (k * s + n + 1) (omega arith) (omega arith) in omega (arith, e)

  -- the last layer goes where layer 0 of a formula is
  pub hub_there : (e : Edge) → Contains F.segments e → in_star F total leg (there F k e) ≡ there F 0 e
  hub_there e h = hub_number e h ∙ first (position_or_len (is_edge e) F.segments)
    where
      first : (n : ℕ) → n + 1 ≡ 0 * s + n + 1
      first n = omega arith

  pub flip_number : (t : ℕ) (g : Pair) → in_star F total leg (made F k t g) ≡ (1 + total) * s + (p + t) * w + position_or_len (is_pair g) F.flips + 1
  flip_number t g = by_place (position_or_len (is_pair g) F.flips)
    where
      by_place : (n : ℕ) → in_star F total leg ((k + 1) * s + t * w + n + 1) ≡ (1 + total) * s + (p + t) * w + n + 1
      by_place n = let e = in_flips ((k + 1) * s + t * w + n + 1) (omega arith) in omega (arith, e)

  -- ---- the numbers are in range and distinct
  module _ (q : ℕ) (all : total ≡ p + k + q) where
    rows_s : total * s ≡ (p + k + q) * s
    rows_s = ap (λ n. n * s) all

    rows_w : total * w ≡ (p + k + q) * w
    rows_w = ap (λ n. n * w) all

    pub number_bounds : (v : ℕ) → 1 ≤ v → v ≤ variable_count F k → (1 ≤ in_star F total leg v) × (in_star F total leg v ≤ star_variable_count F total)
    number_bounds v l m = by_region (region v)
      where
        by_region : Region v → (1 ≤ in_star F total leg v) × (in_star F total leg v ≤ star_variable_count F total)
        by_region (Early a e) = (omega (arith, e), omega (arith, e, rows_s))
        by_region (Hub a b e) = (omega (arith, e), omega (arith, e))
        by_region (Late a e) = (omega (arith, e), omega (arith, e, rows_w))

    pub number_apart : (u v : ℕ) → 1 ≤ u → 1 ≤ v → in_star F total leg u ≡ in_star F total leg v → u ≡ v
    number_apart u v l m same = by_regions (region u) (region v)
      where
        by_regions : Region u → Region v → u ≡ v
        by_regions (Early a e) (Early b f) = omega (arith, e, f)
        by_regions (Early a e) (Hub b c f) = omega (arith, e, f)
        by_regions (Early a e) (Late b f) = omega (arith, e, f, rows_s)
        by_regions (Hub a b e) (Early c f) = omega (arith, e, f)
        by_regions (Hub a b e) (Hub c d f) = omega (arith, e, f)
        by_regions (Hub a b e) (Late d f) = omega (arith, e, f)
        by_regions (Late a e) (Early b f) = omega (arith, e, f, rows_s)
        by_regions (Late a e) (Hub b c f) = omega (arith, e, f)
        by_regions (Late a e) (Late b f) = omega (arith, e, f)
