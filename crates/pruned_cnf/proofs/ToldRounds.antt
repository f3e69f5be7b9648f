-- The edges of a round that an assignment tells, flip by flip.
use Rattle.std.proofs.Common.{◌≡◌, ℕ, ◌+◌, ◌<◌, Bool, true, false, ◌&&◌, List, [], ◌∷◌, ◌++◌, length, take, map, refl, sym, ap, ap₂, ◌∙◌, arith}
use Rattle.std.specs.List.{filter, sum_by, range_with_len}
use Rattle.geo_orient.specs.declared.Point.{Point}
use Rattle.edge_table.specs.declared.edge.Edge.{Edge}
use Rattle.formula_law.specs.Frames.{Pair, Frame, IsFrame}
use Rattle.formula_law.specs.PrunedFormula.{Live, is_live_flip, live_places, live_made}
use Rattle.formula_law.proofs.Clauses.{and}
use Rattle.formula_parts.specs.Building.{no_pair, pair_at}
use Rattle.formula_parts.proofs.Kept.{kept, skipped}
use Rattle.pruned_cnf.proofs.Numbers.{next_flip}

first_false : (a b : Bool) → a ≡ false → (a && b) ≡ false
first_false true b e = absurd (cc)
first_false false b e = refl

second_false : (a b : Bool) → b ≡ false → (a && b) ≡ false
second_false true b e = e
second_false false b e = refl

module _ (points : List Point) (F : Frame) (I : IsFrame points F) (live : Live) (k t n : ℕ) (h : t < k) (l : n < length F.flips) (truth : ℕ → Bool) (last : ℕ) (u : last ≡ length (live_places F live k) + sum_by (λ v. length (filter (is_live_flip F live v) F.flips)) (range_with_len 0 t) + length (filter (is_live_flip F live t) (take n F.flips))) where
  abbrev is_told : Pair → Bool
  is_told g = is_live_flip F live t g && truth (live_made F live k t g)

  next_is : is_live_flip F live t (pair_at F.flips n) ≡ true → truth (live_made F live k t (pair_at F.flips n)) ≡ truth (last + 1)
  next_is a = let e : live_made F live k t (pair_at F.flips n) ≡ last + 1 = omega (arith, u, next_flip points F I live k t n h l a) in ap truth e

  pub told_more : (e : Edge) (old new : List Edge) → is_live_flip F live t (pair_at F.flips n) ≡ true → truth (last + 1) ≡ true → e ≡ (pair_at F.flips n).0 → old ≡ map (λ g. g.0) (filter is_told (take n F.flips)) → new ≡ old ++ e ∷ []
      → new ≡ map (λ g. g.0) (filter is_told (take (n + 1) F.flips))
  told_more e old new a b i v w =
      w ∙ ap₂ (λ es x. es ++ x ∷ []) v i
      ∙ sym (kept (λ (g : Pair). g.0) is_told F.flips n no_pair l (and (is_live_flip F live t (pair_at F.flips n)) (truth (live_made F live k t (pair_at F.flips n))) a (next_is a ∙ b)))

  pub told_off : (old : List Edge) → is_live_flip F live t (pair_at F.flips n) ≡ true → truth (last + 1) ≡ false → old ≡ map (λ g. g.0) (filter is_told (take n F.flips)) → old ≡ map (λ g. g.0) (filter is_told (take (n + 1) F.flips))
  told_off old a b v = v ∙ sym (skipped (λ (g : Pair). g.0) is_told F.flips n no_pair l (second_false (is_live_flip F live t (pair_at F.flips n)) (truth (live_made F live k t (pair_at F.flips n))) (next_is a ∙ b)))

  pub told_dead : (old : List Edge) → is_live_flip F live t (pair_at F.flips n) ≡ false → old ≡ map (λ g. g.0) (filter is_told (take n F.flips)) → old ≡ map (λ g. g.0) (filter is_told (take (n + 1) F.flips))
  told_dead old a v = v ∙ sym (skipped (λ (g : Pair). g.0) is_told F.flips n no_pair l (first_false (is_live_flip F live t (pair_at F.flips n)) (truth (live_made F live k t (pair_at F.flips n))) a))
