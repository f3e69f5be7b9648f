-- Copies of inputs: each input stands for as many copies as its weight says.
use Rattle.std.specs.Prelude.{ℕ, List, [], ◌∷◌, ◌++◌, length, replicate, slice_index_or}
use Rattle.std.specs.List.{range_with_len}

-- the copies of the first item, then those of the second, and so on
abbrev pub copied : {X : Type 0} → List ℕ → List X → List X
copied [] xs = []
copied (w ∷ ws) [] = []
copied (w ∷ ws) (x ∷ xs) = replicate w x ++ copied ws xs

-- the input of copy c
abbrev pub copy_of : List ℕ → ℕ → ℕ
copy_of weights c = slice_index_or (copied weights (range_with_len 0 (length weights))) c 0
