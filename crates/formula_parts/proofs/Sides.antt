-- The four sides of a flip, in order.
use Rattle.std.proofs.Common.{◌≡◌, ◌≢◌, ◌⊎◌, inl, inr, ℕ, ◌<◌, ◌≤◌, List, [], ◌∷◌, Contains, refl, sym, subst, subst₂, arith}
use Rattle.std.proofs.lemmas.List.Kept.{AllPairs-filter}
use native.Mathlib.Decide.{dec_lt}
use Rattle.geo_orient.specs.declared.Point.{Point}
use Rattle.tri_theory.specs.Points.{AreApart, ArePlaced}
use Rattle.edge_table.specs.declared.edge.Edge.{Edge}
use Rattle.edge_table.specs.Edges.{edge, IsBefore, IsAscending}
use Rattle.edge_table.proofs.Edges.{edge_swap}
use Rattle.edge_table.proofs.Ascending.{same_members}
use Rattle.tri_theory.proofs.Flip.{never_left}
use Rattle.tri_theory.proofs.Lists.{plane}
use Rattle.formula_law.specs.Frames.{Frame, IsFrame, MayFlip}
use Rattle.formula_law.specs.Formula.{is_side, sides}
use Rattle.formula_law.proofs.Clauses.{in_none, in_cases, in_filter, filtered}
use Rattle.formula_law.proofs.EdgeTests.{IsEnd, side_test, side_ends, each_side}
use Rattle.formula_law.proofs.OrderedLists.{pairs_none, pairs_cons}
use Rattle.formula_law.proofs.Quads.{segment_ab, segment_bc, segment_cd, segment_da}
use Rattle.formula_parts.specs.Lists.{pair_of}
use Rattle.formula_parts.specs.Building.{four}
use Rattle.formula_parts.proofs.Quads.{flips_cross}

-- ---- the edges from the ends of one edge to those of another
pub four_each : (Q : Edge → Type 0) (e f : Edge) → Q (edge e.0 f.0) → Q (edge e.0 f.1) → Q (edge e.1 f.0) → Q (edge e.1 f.1) → (s : Edge) → Contains (four e f) s → Q s
four_each Q e f q r u v s h = by_1 (in_cases s (edge e.0 f.0) (edge e.0 f.1 ∷ edge e.1 f.0 ∷ edge e.1 f.1 ∷ []) h)
  where
    by_4 : (edge e.1 f.1 ≡ s) ⊎ Contains [] s → Q s
    by_4 (inl i) = subst Q i v
    by_4 (inr k) = absurd (in_none s k)

    by_3 : (edge e.1 f.0 ≡ s) ⊎ Contains (edge e.1 f.1 ∷ []) s → Q s
    by_3 (inl i) = subst Q i u
    by_3 (inr k) = by_4 (in_cases s (edge e.1 f.1) [] k)

    by_2 : (edge e.0 f.1 ≡ s) ⊎ Contains (edge e.1 f.0 ∷ edge e.1 f.1 ∷ []) s → Q s
    by_2 (inl i) = subst Q i r
    by_2 (inr k) = by_3 (in_cases s (edge e.1 f.0) (edge e.1 f.1 ∷ []) k)

    by_1 : (edge e.0 f.0 ≡ s) ⊎ Contains (edge e.0 f.1 ∷ edge e.1 f.0 ∷ edge e.1 f.1 ∷ []) s → Q s
    by_1 (inl i) = subst Q i q
    by_1 (inr k) = by_2 (in_cases s (edge e.0 f.1) (edge e.1 f.0 ∷ edge e.1 f.1 ∷ []) k)

pub four_has : (e f : Edge) (x y : ℕ) → IsEnd e x → IsEnd f y → Contains (four e f) (edge x y)
four_has e f x y (inl i) (inl j) = subst₂ (λ x y. Contains (four e f) (edge x y)) (sym i) (sym j) (0, omega arith, refl)
four_has e f x y (inl i) (inr j) = subst₂ (λ x y. Contains (four e f) (edge x y)) (sym i) (sym j) (1, omega arith, refl)
four_has e f x y (inr i) (inl j) = subst₂ (λ x y. Contains (four e f) (edge x y)) (sym i) (sym j) (2, omega arith, refl)
four_has e f x y (inr i) (inr j) = subst₂ (λ x y. Contains (four e f) (edge x y)) (sym i) (sym j) (3, omega arith, refl)

pub four_ascend : (e f : Edge) → e.0 < e.1 → f.0 < f.1 → e.0 < f.0 → IsAscending (four e f)
four_ascend e f he hf l =
    pairs_cons IsBefore (edge e.0 f.0) (edge e.0 f.1 ∷ edge e.1 f.0 ∷ edge e.1 f.1 ∷ []) first
    (pairs_cons IsBefore (edge e.0 f.1) (edge e.1 f.0 ∷ edge e.1 f.1 ∷ []) second
    (pairs_cons IsBefore (edge e.1 f.0) (edge e.1 f.1 ∷ []) third
    (pairs_cons IsBefore (edge e.1 f.1) [] (λ s h. absurd (in_none s h)) (pairs_none IsBefore))))
  where
    a : ℕ
    a = e.0

    across : (x y : ℕ) → e.0 < x → e.0 < y → IsBefore (edge e.0 x) (edge e.1 y)
    across x y h k = inl (omega arith)

    same_low : IsBefore (edge e.0 f.0) (edge e.0 f.1)
    same_low = inr (omega arith, omega arith)

    last : Dec (f.0 < e.1) → IsBefore (edge e.1 f.0) (edge e.1 f.1)
    last (yes k) = inl (omega arith)
    last (no n) = inr (omega arith, omega arith)

    third_by : (s : Edge) → (edge e.1 f.1 ≡ s) ⊎ Contains [] s → IsBefore (edge e.1 f.0) s
    third_by s (inl i) = subst (IsBefore (edge e.1 f.0)) i (last (dec_lt f.0 e.1))
    third_by s (inr k) = absurd (in_none s k)

    third : (s : Edge) → Contains (edge e.1 f.1 ∷ []) s → IsBefore (edge e.1 f.0) s
    third s h = third_by s (in_cases s (edge e.1 f.1) [] h)

    beyond : (x : ℕ) → e.0 < x → (s : Edge) → (edge e.1 f.0 ≡ s) ⊎ Contains (edge e.1 f.1 ∷ []) s → IsBefore (edge e.0 x) s
    beyond x h s (inl i) = subst (IsBefore (edge e.0 x)) i (across x f.0 h l)
    beyond x h s (inr k) = by_last (in_cases s (edge e.1 f.1) [] k)
      where
        by_last : (edge e.1 f.1 ≡ s) ⊎ Contains [] s → IsBefore (edge e.0 x) s
        by_last (inl i) = subst (IsBefore (edge e.0 x)) i (across x f.1 h (omega arith))
        by_last (inr k) = absurd (in_none s k)

    second : (s : Edge) → Contains (edge e.1 f.0 ∷ edge e.1 f.1 ∷ []) s → IsBefore (edge e.0 f.1) s
    second s h = beyond f.1 (omega arith) s (in_cases s (edge e.1 f.0) (edge e.1 f.1 ∷ []) h)

    first_by : (s : Edge) → (edge e.0 f.1 ≡ s) ⊎ Contains (edge e.1 f.0 ∷ edge e.1 f.1 ∷ []) s → IsBefore (edge e.0 f.0) s
    first_by s (inl i) = subst (IsBefore (edge e.0 f.0)) i same_low
    first_by s (inr k) = beyond f.0 l s (in_cases s (edge e.1 f.0) (edge e.1 f.1 ∷ []) k)

    first : (s : Edge) → Contains (edge e.0 f.1 ∷ edge e.1 f.0 ∷ edge e.1 f.1 ∷ []) s → IsBefore (edge e.0 f.0) s
    first s h = first_by s (in_cases s (edge e.0 f.1) (edge e.1 f.0 ∷ edge e.1 f.1 ∷ []) h)

-- ---- are the sides of a flip
module _ (points : List Point) (P : ArePlaced points) (F : Frame) (I : IsFrame points F) (e f : Edge) (h : Contains F.flips (pair_of e f)) where
  may : MayFlip points e f
  may = (I.flips e f).0 h

  pub joins : (x y : ℕ) → IsEnd e x → IsEnd f y → Contains F.segments (edge x y)
  joins x y i j = by_quad may
    where
      by_quad : MayFlip points e f → Contains F.segments (edge x y)
      by_quad (a, b, c, d, he, hf, q) =
          each_side (Contains F.segments) a b c d (edge x y) (side_test (edge a c) (edge b d) x y (subst (λ (e : Edge). IsEnd e x) he i) (subst (λ (f : Edge). IsEnd f y) hf j)) ((I.segments (edge a b)).1 (segment_ab points P q)) ((I.segments (edge b c)).1 (segment_bc points P q)) ((I.segments (edge c d)).1 (segment_cd points P q)) ((I.segments (edge d a)).1 (segment_da points P q))

  low_e : e.0 < e.1
  low_e = by_quad may
    where
      by_quad : MayFlip points e f → e.0 < e.1
      by_quad (a, b, c, d, he, hf, q) = subst (λ (e : Edge). e.0 < e.1) (sym he) q.from.low_first

  low_f : f.0 < f.1
  low_f = by_quad may
    where
      by_quad : MayFlip points e f → f.0 < f.1
      by_quad (a, b, c, d, he, hf, q) = subst (λ (f : Edge). f.0 < f.1) (sym hf) q.to.low_first

  apart : f.0 ≢ e.0
  apart i = clash (subst (λ x. AreApart points e.0 e.1 x f.1) i (flips_cross points e f may).0)
    where
      clash : AreApart points e.0 e.1 e.0 f.1 → ⊥
      clash (inl h) = (never_left (plane points P) e.0 e.1).2 h.0
      clash (inr h) = (never_left (plane points P) e.1 e.0).1 h.0

  ordered : (L : List Edge) → IsAscending L → ((s : Edge) → Contains L s → (x y : ℕ) × IsEnd e x × IsEnd f y × (s ≡ edge x y)) → ((x y : ℕ) → IsEnd e x → IsEnd f y → Contains L (edge x y)) → sides F (pair_of e f) ≡ L
  ordered L up of has = same_members (sides F (pair_of e f)) L (AllPairs-filter IsBefore (is_side (pair_of e f)) F.segments I.segments_ascend) up (λ s. (to s, from s))
    where
      to : (s : Edge) → Contains (sides F (pair_of e f)) s → Contains L s
      to s k = by_ends (side_ends e f s (in_filter (is_side (pair_of e f)) F.segments s k).1)
        where
          by_ends : (x y : ℕ) × IsEnd e x × IsEnd f y × (s ≡ edge x y) → Contains L s
          by_ends (x, y, i, j, q) = subst (Contains L) (sym q) (has x y i j)

      from : (s : Edge) → Contains L s → Contains (sides F (pair_of e f)) s
      from s k = by_ends (of s k)
        where
          by_ends : (x y : ℕ) × IsEnd e x × IsEnd f y × (s ≡ edge x y) → Contains (sides F (pair_of e f)) s
          by_ends (x, y, i, j, q) = subst (Contains (sides F (pair_of e f))) (sym q) (filtered (is_side (pair_of e f)) F.segments (edge x y) (joins x y i j) (side_test e f x y i j))

  abbrev Joins : Edge → Type 0
  Joins s = (x y : ℕ) × IsEnd e x × IsEnd f y × (s ≡ edge x y)

  pub sides_from : e.0 < f.0 → sides F (pair_of e f) ≡ four e f
  sides_from l = ordered (four e f) (four_ascend e f low_e low_f l)
      (four_each Joins e f (e.0, f.0, inl refl, inl refl, refl) (e.0, f.1, inl refl, inr refl, refl) (e.1, f.0, inr refl, inl refl, refl) (e.1, f.1, inr refl, inr refl, refl))
      (λ x y i j. four_has e f x y i j)

  pub sides_to : f.0 ≤ e.0 → sides F (pair_of e f) ≡ four f e
  sides_to l = ordered (four f e) (four_ascend f e low_f low_e (let n = apart in omega arith))
      (four_each Joins f e (e.0, f.0, inl refl, inl refl, edge_swap f.0 e.0) (e.1, f.0, inr refl, inl refl, edge_swap f.0 e.1) (e.0, f.1, inl refl, inr refl, edge_swap f.1 e.0) (e.1, f.1, inr refl, inr refl, edge_swap f.1 e.1))
      (λ x y i j. subst (Contains (four f e)) (edge_swap y x) (four_has f e y x j i))

  pub four_from : (s : Edge) → Contains (four e f) s → Contains F.segments s
  four_from = four_each (Contains F.segments) e f (joins e.0 f.0 (inl refl) (inl refl)) (joins e.0 f.1 (inl refl) (inr refl)) (joins e.1 f.0 (inr refl) (inl refl)) (joins e.1 f.1 (inr refl) (inr refl))

  pub four_to : (s : Edge) → Contains (four f e) s → Contains F.segments s
  four_to = four_each (Contains F.segments) f e (back e.0 f.0 (inl refl) (inl refl)) (back e.1 f.0 (inr refl) (inl refl)) (back e.0 f.1 (inl refl) (inr refl)) (back e.1 f.1 (inr refl) (inr refl))
    where
      back : (x y : ℕ) → IsEnd e x → IsEnd f y → Contains F.segments (edge y x)
      back x y i j = subst (Contains F.segments) (edge_swap x y) (joins x y i j)
