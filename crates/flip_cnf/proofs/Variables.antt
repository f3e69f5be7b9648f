-- The numbers of variables by the places of segments and flips.
use Rattle.std.proofs.Common.{◌≡◌, ℕ, ◌+◌, ◌*◌, ◌<◌, ◌≤◌, List, length, ap, arith}
use Rattle.std.proofs.Math.Nat.{mul-le-mul_right}
use Rattle.geo_orient.specs.declared.Point.{Point}
use Rattle.formula_law.specs.Frames.{Frame, IsFrame}
use Rattle.formula_law.specs.Formula.{there, made, variable_count}
use Rattle.formula_parts.specs.Lists.{edge_at}
use Rattle.formula_parts.specs.Building.{pair_at}
use Rattle.formula_parts.proofs.Places.{segment_number, flip_number}

module _ (points : List Point) (F : Frame) (I : IsFrame points F) where
  pub there_is : (t n : ℕ) → n < length F.segments → there F t (edge_at F.segments n) ≡ t * length F.segments + n + 1
  there_is t n h = ap (λ p. t * length F.segments + p + 1) (segment_number points F I n h)

  pub made_is : (k t n : ℕ) → n < length F.flips → made F k t (pair_at F.flips n) ≡ (k + 1) * length F.segments + t * length F.flips + n + 1
  made_is k t n h = ap (λ p. (k + 1) * length F.segments + t * length F.flips + p + 1) (flip_number points F I n h)

  pub made_few : (k t n most : ℕ) → t < k → n < length F.flips → variable_count F k ≤ most → made F k t (pair_at F.flips n) ≤ most
  made_few k t n most l h few =
      let rows : (t + 1) * length F.flips ≤ k * length F.flips = mul-le-mul_right (length F.flips) (omega arith) in
      omega (arith, rows, made_is k t n h)
