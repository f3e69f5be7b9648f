-- Inputs, one after the other.
use Rattle.std.proofs.Common.{◌≡◌, ◌∙◌, ℕ, ◌+◌, ◌<◌, Some, List, [], ◌∷◌, ◌++◌, length, slice_get, sym, ap, subst, subst₂, arith}
use Rattle.std.proofs.lemmas.List.{length_push, get_or_push, get_or_append_left}
use Rattle.std.proofs.lemmas.Option.{slice_get_within, slice_get-get_or, get_or_from_slice_get}
use native.Mathlib.Decide.{dec_lt}
use Rattle.geo_orient.specs.declared.Point.{Point}
use Rattle.tri_check.specs.declared.raw.RawPair.{RawPair}
use Rattle.gen_instance.specs.declared.direction.Direction.{Direction}
use Rattle.gen_instance.specs.Generated.{direction_of, IsSweptAlong}
use Rattle.gen_instance.specs.Sweeping.{AreInputs}

-- one more
pub inputs_more : (points : List Point) (seed t : ℕ) (direction : Direction) (inputs made : List (List RawPair)) (input : List RawPair) → AreInputs points seed t inputs → direction ≡ direction_of seed t → IsSweptAlong points direction input → made ≡ inputs ++ input ∷ [] → AreInputs points seed (t + 1) made
inputs_more points seed t direction inputs made input A e S f = subst (AreInputs points seed (t + 1)) (sym f) (record {
  count = length_push inputs input ∙ ap (λ n. n + 1) A.count;
  each = λ u pairs h. by_place u pairs h (dec_lt u t);
})
  where
    by_place : (u : ℕ) (pairs : List RawPair) → slice_get (inputs ++ input ∷ []) u ≡ Some pairs → Dec (u < t) → IsSweptAlong points (direction_of seed u) pairs
    by_place u pairs h (yes l) = A.each u pairs (slice_get-get_or inputs u pairs within ∙ ap (λ ps. Some ps) (sym (get_or_append_left inputs (input ∷ []) pairs u within) ∙ get_or_from_slice_get (inputs ++ input ∷ []) u pairs pairs h))
      where
        within : u < length inputs
        within = let c = A.count in omega (arith, l, c)
    by_place u pairs h (no n) = subst₂ (λ v ps. IsSweptAlong points (direction_of seed v) ps) last (sym (get_or_push inputs input pairs u (A.count ∙ last)) ∙ get_or_from_slice_get (inputs ++ input ∷ []) u pairs pairs h) (subst (λ d. IsSweptAlong points d input) e S)
      where
        last : t ≡ u
        last = let c = A.count in let w = slice_get_within (inputs ++ input ∷ []) u pairs h in let m = length_push inputs input in omega (arith, n, w, c, m)
