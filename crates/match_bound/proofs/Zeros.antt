-- A table in which every weight is 0.
use Rattle.std.proofs.Common.{◌≡◌, ℕ, zero, suc, ◌<◌, ◌≤◌, List, length, get_or, replicate, refl, sym, ap, ◌∙◌, subst, arith}
use Rattle.std.specs.Prelude.{All}
use Rattle.std.proofs.lemmas.List.{get_or-replicate, length-replicate}
use Rattle.match_bound.specs.Tables.{weight, IsTable}

-- a copy of one element at each place, also past the end
pub everywhere : {A : Type 0} (n i : ℕ) (a : A) → get_or (replicate n a) i a ≡ a
everywhere zero i a = refl
everywhere (suc n) zero a = refl
everywhere (suc n) (suc i) a = everywhere n i a

abbrev row : ℕ → List ℕ
row m = replicate m 0

zero_weight : (n m i j : ℕ) → weight (replicate n (row m)) i j ≡ 0
zero_weight zero m i j = refl
zero_weight (suc n) m zero j = everywhere m j 0
zero_weight (suc n) m (suc i) j = zero_weight n m i j

pub zeros_table : (m : ℕ) → 1 ≤ m → m ≤ 256 → IsTable (replicate m (replicate m 0))
zeros_table m low high = record {
  few = (let l = length-replicate m (row m) in omega (arith, l, low), let l = length-replicate m (row m) in omega (arith, l, high));
  square = square;
  mirrored = λ i j. zero_weight m m i j ∙ sym (zero_weight m m j i);
  hollow = λ i. zero_weight m m i i;
  small = λ i j. let z = zero_weight m m i j in omega (arith, z);
}
  where
    row_length : length (row m) ≡ m
    row_length = length-replicate m _

    square : All (λ (r : List ℕ). length r ≡ length (replicate m (row m))) (replicate m (row m))
    square i d l =
        ap length (get_or-replicate m i (row m) d (subst (λ n. i < n) (length-replicate m (row m)) l)) ∙ (row_length ∙ sym (length-replicate m (row m)))
