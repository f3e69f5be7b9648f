-- Copies of inputs, and the lower bounds of pairs of them.
use Rattle.std.specs.Prelude.{ℕ, List}
pub use Rattle.tri_theory.specs.Copies.{copied, copy_of}

-- the lower bound of two copies is that of their inputs
abbrev pub copy_lower : List ℕ → (ℕ → ℕ → ℕ) → ℕ → ℕ → ℕ
copy_lower weights lower c d = lower (copy_of weights c) (copy_of weights d)
