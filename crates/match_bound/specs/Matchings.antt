-- Partial matchings of inputs with the inputs that they go to, and potentials for them that aren't below any weight.
use Rattle.std.specs.Prelude.{◌≡◌, ℕ, ◌+◌, ◌<◌, ◌≤◌, ◌^◌, Option, Some, None, is_none, List, length, slice_index, slice_index_or, All, count_by}

-- what an input goes to, if it goes to any
abbrev pub image_of : List (Option ℕ) → ℕ → Option ℕ
image_of image i = slice_index_or image i None

-- of m inputs some go to the first `taken` ones, each to another
pub record IsMatching (m taken : ℕ) (image : List (Option ℕ)) : Type 0 where
  pub long : length image ≡ m
  pub below : (i j : ℕ) → image_of image i ≡ Some j → j < taken
  pub apart : (i k j : ℕ) → image_of image i ≡ Some j → image_of image k ≡ Some j → i ≡ k
  pub free : count_by is_none image + taken ≡ m

-- no pair of inputs weighs more than its two potentials
pub record Covers (weight : ℕ → ℕ → ℕ) (m : ℕ) (u v : List ℕ) : Type 0 where
  pub u_long : length u ≡ m
  pub v_long : length v ≡ m
  pub above : (i j : ℕ) → i < m → j < m → weight i j ≤ slice_index u i + slice_index v j
  pub u_small : All (λ x. x < 2 ^ 32) u
  pub v_small : All (λ x. x < 2 ^ 32) v

-- each pair of the matching weighs as much as its potentials, and an input that goes nowhere has the potential 0
pub record Meets (weight : ℕ → ℕ → ℕ) (image : List (Option ℕ)) (u v : List ℕ) : Type 0 where
  pub tight : (i j : ℕ) → image_of image i ≡ Some j → weight i j ≡ slice_index u i + slice_index v j
  pub idle : (i : ℕ) → image_of image i ≡ None → slice_index u i ≡ 0

pub record IsStage (weight : ℕ → ℕ → ℕ) (m taken : ℕ) (image : List (Option ℕ)) (u v : List ℕ) : Type 0 where
  pub matching : IsMatching m taken image
  pub covers : Covers weight m u v
  pub meets : Meets weight image u v

-- a matching of all inputs, as the list of what they go to
pub record IsListed (image : List (Option ℕ)) (perm : List ℕ) : Type 0 where
  pub long : length perm ≡ length image
  pub each : (i : ℕ) → i < length perm → image_of image i ≡ Some (slice_index perm i)
