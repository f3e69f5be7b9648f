-- The binary digits of a number, taken off one by one.
use Rattle.std.proofs.Common.{◌≡◌, ℕ, ◌+◌, ◌/◌, ◌^◌, ◌<◌, ◌≤◌, arith}
use Rattle.crossing_law.proofs.Counts.{digits_half, digits_at_most}
use Rattle.crossing_law.specs.Digits.{digits}

-- one digit is taken off
pub digit_off : (n rest k : ℕ) → 0 < rest → digits n ≡ k + digits rest → digits n ≡ (k + 1) + digits (rest / 2)
digit_off n rest k l e = let h = digits_half rest l in omega arith

pub few_digits : (n k rest : ℕ) → n < 2 ^ 32 → digits n ≡ k + digits rest → k ≤ 32
few_digits n k rest l e = let h = digits_at_most n 32 l in omega arith
