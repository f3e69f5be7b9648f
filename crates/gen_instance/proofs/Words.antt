-- Words of a stream, one after the other, and the points and directions that they give.
use Rattle.std.proofs.Common.{◌≡◌, ◌∙◌, ℕ, zero, suc, ◌+◌, ◌-◌, ◌*◌, ◌<◌, ◌≤◌, List, [], ◌∷◌, ◌++◌, length, get_or, refl, sym, ap, arith, append-nil, append_assoc, add-one}
use Rattle.rand_core.specs.Steps.{first_words}
use Rattle.rand_pcg.specs.Lcg.{Lcg, started, increment_of}
use Rattle.rand_pcg.specs.Pcg.{multiplier_64, pcg32}
use Rattle.geo_orient.specs.declared.Point.{Point}
use Rattle.gen_instance.specs.Generated.{words_of, point_by, points_by, first_points, points_of, direction_by, direction_of}

pub words_none : (s : Lcg) → first_words pcg32 0 s ≡ []
unfolding first_words
words_none s = refl

pub words_more : (n : ℕ) (s : Lcg) → first_words pcg32 (suc n) s ≡ (pcg32 s).0 ∷ first_words pcg32 n (pcg32 s).1
unfolding first_words
words_more n s = refl

module _ (s next after : Lcg) (v w : ℕ) (first : (v, next) ≡ pcg32 s) (second : (w, after) ≡ pcg32 next) where
  -- the next two words, and those after them
  two_more : (n : ℕ) → first_words pcg32 (suc (suc n)) s ≡ v ∷ w ∷ first_words pcg32 n after
  two_more n =
      words_more (suc n) s ∙ (sym (ap (λ (p : ℕ × Lcg). p.0 ∷ first_words pcg32 (suc n) p.1) first)
      ∙ ap (λ ws. v ∷ ws) (words_more n next ∙ sym (ap (λ (p : ℕ × Lcg). p.0 ∷ first_words pcg32 n p.1) second)))

  pub directed : (seed t stream : ℕ) → stream ≡ t + 1 → s ≡ started 64 multiplier_64 seed (increment_of 64 stream) → direction_by v w ≡ direction_of seed t
  directed seed t stream e f = ap (λ ws. direction_by (get_or ws 0 0) (get_or ws 1 0)) drawn
    where
      drawn : v ∷ w ∷ [] ≡ words_of seed (t + 1) 2
      drawn =
          ap (λ ws. v ∷ w ∷ ws) (sym (words_none after)) ∙ (sym (two_more 0)
          ∙ (ap (first_words pcg32 2) f ∙ ap (λ k. first_words pcg32 2 (started 64 multiplier_64 seed (increment_of 64 k))) e))

  -- one more point by two words
  pub points_more : (points made all : List Point) (q : Point) (i n : ℕ) → i < n → points ++ points_by i (first_words pcg32 (2 * (n - i)) s) ≡ all → q ≡ point_by i v w → made ≡ points ++ q ∷ []
      → made ++ points_by (i + 1) (first_words pcg32 (2 * (n - (i + 1))) after) ≡ all
  points_more points made all q i n l e is m =
      ap (λ ps. ps ++ rest (i + 1)) m ∙ (append_assoc points (q ∷ []) (rest (i + 1)) ∙ (ap (λ ps. points ++ ps) same ∙ e))
    where
      rest : ℕ → List Point
      rest k = points_by k (first_words pcg32 (2 * (n - (i + 1))) after)

      count : 2 * (n - i) ≡ suc (suc (2 * (n - (i + 1))))
      count = omega arith

      same : q ∷ rest (i + 1) ≡ points_by i (first_words pcg32 (2 * (n - i)) s)
      same = ap (λ p. p ∷ rest (i + 1)) is ∙ (ap (λ k. point_by i v w ∷ rest k) (add-one i) ∙ sym (ap (points_by i) (ap (λ k. first_words pcg32 k s) count ∙ two_more (2 * (n - (i + 1))))))

pub points_begin : (seed n : ℕ) (points : List Point) (s : Lcg) → points ≡ first_points → s ≡ started 64 multiplier_64 seed (increment_of 64 0) → points ++ points_by 3 (first_words pcg32 (2 * (n - 3)) s) ≡ points_of seed n
points_begin seed n points s e f = ap (λ ps. ps ++ points_by 3 (first_words pcg32 (2 * (n - 3)) s)) e ∙ ap (λ g. first_points ++ points_by 3 (first_words pcg32 (2 * (n - 3)) g)) f

pub points_end : (points all : List Point) (s : Lcg) (i n : ℕ) → n ≤ i → points ++ points_by i (first_words pcg32 (2 * (n - i)) s) ≡ all → points ≡ all
points_end points all s i n l e =
    sym (append-nil points) ∙ (ap (λ ws. points ++ points_by i ws) (sym (words_none s)) ∙ (ap (λ k. points ++ points_by i (first_words pcg32 k s)) none ∙ e))
  where
    none : 0 ≡ 2 * (n - i)
    none = omega arith

-- as many points as pairs of words
pub length_points_by : (i m : ℕ) (s : Lcg) → length (points_by i (first_words pcg32 (2 * m) s)) ≡ m
length_points_by i zero s = ap (λ ws. length (points_by i ws)) (words_none s)
length_points_by i (suc m) s = ap (λ k. length (points_by i (first_words pcg32 k s))) count ∙ (ap (λ ws. length (points_by i ws)) two ∙ ap suc (length_points_by (suc i) m (pcg32 (pcg32 s).1).1))
  where
    count : 2 * suc m ≡ suc (suc (2 * m))
    count = omega arith

    two : first_words pcg32 (suc (suc (2 * m))) s ≡ (pcg32 s).0 ∷ (pcg32 (pcg32 s).1).0 ∷ first_words pcg32 (2 * m) (pcg32 (pcg32 s).1).1
    two = two_more s (pcg32 s).1 (pcg32 (pcg32 s).1).1 (pcg32 s).0 (pcg32 (pcg32 s).1).0 refl refl (2 * m)

pub length_points_of : (seed n : ℕ) → 3 ≤ n → length (points_of seed n) ≡ n
length_points_of seed n l = ap (λ k. suc (suc (suc k))) (length_points_by 3 (n - 3) (started 64 multiplier_64 seed (increment_of 64 0))) ∙ all
  where
    all : suc (suc (suc (n - 3))) ≡ n
    all = omega arith
