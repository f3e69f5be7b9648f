-- The words that `clap` may read: a name or a value, or an option by its name alone. What the words ask for stands in `Words`.
use Rattle.std.specs.Prelude.{◌==◌, ◌&&◌, ◌||◌, ℕ, Bool, false, not, List, [], ◌∷◌, length}
use Rattle.std.specs.List.{list_any}

-- some bytes, and no `=` that a value stands behind
abbrev pub is_bare : List ℕ → Bool
is_bare name = not (length name == 0) && not (list_any (λ b. b == 61) name)

abbrev pub is_word : List ℕ → Bool
is_word [] = false
is_word (a ∷ []) = not (a == 45)
is_word (a ∷ b ∷ name) = not (a == 45) || ((b == 45) && is_bare name)
