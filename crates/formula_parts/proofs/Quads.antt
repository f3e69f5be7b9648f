-- Which edges may flip to which.
use Rattle.std.proofs.Common.{◌≡◌, inl, inr, ◌↔◌, ℕ, ◌<◌, List, length, refl, sym, ◌∙◌, subst, subst₂}
use native.Mathlib.Decide.{ℕ_discrete}
use Rattle.geo_orient.specs.declared.Point.{Point}
use Rattle.tri_theory.specs.Points.{IsLeft, AreApart, ArePlaced}
use Rattle.edge_table.specs.declared.edge.Edge.{Edge}
use Rattle.edge_table.specs.Edges.{edge}
use Rattle.tri_theory.specs.Triangulations.{IsSegment, Crosses, IsOutside}
use Rattle.formula_law.specs.Frames.{IsEmptyQuad, MayFlip}
use Rattle.edge_table.proofs.Edges.{edge_of, edge_swap}
use Rattle.tri_theory.proofs.Plane.{turned, not_both}
use Rattle.tri_theory.proofs.Edges.{edge_same}
use Rattle.tri_theory.proofs.Flip.{Same}
use Rattle.tri_theory.proofs.Lists.{plane}
use Rattle.formula_law.proofs.Quads.{second_turns}
use Rattle.formula_parts.specs.Found.{IsClear}
use Rattle.formula_parts.specs.Tables.{IsEmptyOfPoints}

pub flips_cross : (points : List Point) (e f : Edge) → MayFlip points e f → Crosses points e f
flips_cross points e f (a, b, c, d, i, j, q) = subst₂ (Crosses points) (sym i) (sym j) q.crosses

abbrev pub IsEmpty : List Point → ℕ → ℕ → ℕ → ℕ → Type 0
IsEmpty points a b c d = (p : ℕ) → p < length points → IsClear points a b c d p

-- the same ends under other names
pub named : {A : Type 0} (points : List Point) {a b c d x y z w : ℕ} → a ≡ x → b ≡ y → c ≡ z → d ≡ w → A ↔ IsEmpty points a b c d → A ↔ IsEmpty points x y z w
named {A} points {a} {b} {c} {d} {x} {y} {z} {w} i j k l h = subst₂ (λ x z. A ↔ IsEmpty points x y z w) i k (subst₂ (λ y w. A ↔ IsEmpty points a y c w) j l h)

pub joined : {A B C : Type 0} → A ↔ B → B ↔ C → A ↔ C
joined h k = (λ a. k.0 (h.0 a), λ c. h.1 (k.1 c))

module _ (points : List Point) (P : ArePlaced points) where
  rotate : (x y z p : ℕ) → IsOutside points x y z p → IsOutside points y z x p
  rotate x y z p (inl h) = inr (inr h)
  rotate x y z p (inr (inl h)) = inl h
  rotate x y z p (inr (inr h)) = inr (inl h)

  half : (a b c d p : ℕ) → IsClear points c d a b p → IsClear points a b c d p
  half a b c d p h na nb nc nd = let r = h nc nd na nb in (rotate c a b p r.1, rotate d a c p (rotate c d a p r.0))

  -- b lies right of the way from a to c
  clash : (a b c : ℕ) → IsLeft points a b c → ¬ IsLeft points a c b
  clash a b c h k = not_both (plane points P) k (turned (plane points P) (turned (plane points P) h))

  back : (a b c : ℕ) → IsLeft points c b a → IsLeft points a c b
  back a b c h = turned (plane points P) (turned (plane points P) h)

  by_ends : (a b c d x y z w : ℕ) → IsLeft points a b c → IsEmptyQuad points x y z w → Same a c x z → Same b d y w → IsEmpty points a b c d
  by_ends a b c d x y z w t q (inl s) (inl r) = (subst₂ (λ x z. IsEmptyQuad points x b z d) s.0 s.1 (subst₂ (λ y w. IsEmptyQuad points x y z w) r.0 r.1 q)).empty
  by_ends a b c d x y z w t q (inl s) (inr r) = absurd (clash a b c t (second_turns points P (subst₂ (λ x z. IsEmptyQuad points x d z b) s.0 s.1 (subst₂ (λ y w. IsEmptyQuad points x y z w) r.0 r.1 q))))
  by_ends a b c d x y z w t q (inr s) (inl r) = absurd (clash a b c t (back a b c (subst₂ (λ x z. IsEmptyQuad points x b z d) s.0 s.1 (subst₂ (λ y w. IsEmptyQuad points x y z w) r.0 r.1 q)).turns))
  by_ends a b c d x y z w t q (inr s) (inr r) = λ p h. half a b c d p ((subst₂ (λ x z. IsEmptyQuad points x d z b) s.0 s.1 (subst₂ (λ y w. IsEmptyQuad points x y z w) r.0 r.1 q)).empty p h)

  pub empty_iff : (a b c d : ℕ) → IsSegment points (edge a c) → IsSegment points (edge b d) → Crosses points (edge a c) (edge b d) → IsLeft points a b c → IsEmpty points a b c d ↔ MayFlip points (edge a c) (edge b d)
  empty_iff a b c d s r x t = (
    λ h. (a, b, c, d, refl, refl, record { turns = t; from = s; to = r; crosses = x; empty = h }),
    λ (x, y, z, w, i, j, q). by_ends a b c d x y z w t q (edge_same a c x z (sym i)) (edge_same b d y w (sym j)),
  )

  -- by the two triangles
  pub empty_of_points_iff : (a b c d : ℕ) → IsLeft points a b c → IsLeft points a c d → (IsEmptyOfPoints points a b c × IsEmptyOfPoints points a c d) ↔ IsEmpty points a b c d
  empty_of_points_iff a b c d right left = (λ (x, y) p h na nb nc nd. (x p h na nb nc, y p h na nc nd), λ h. (first h, second h))
    where
      first : IsEmpty points a b c d → IsEmptyOfPoints points a b c
      first h p l na nb nc = by_test (ℕ_discrete p d)
        where
          by_test : Dec (p ≡ d) → IsOutside points a b c p
          by_test (yes e) = subst (λ w. IsOutside points a b c w) (sym e) (inr (inr left))
          by_test (no nd) = (h p l na nb nc nd).0

      second : IsEmpty points a b c d → IsEmptyOfPoints points a c d
      second h p l na nc nd = by_test (ℕ_discrete p b)
        where
          by_test : Dec (p ≡ b) → IsOutside points a c d p
          by_test (yes e) = subst (λ w. IsOutside points a c d w) (sym e) (inl (turned (plane points P) (turned (plane points P) right)))
          by_test (no nb) = (h p l na nb nc nd).1

  -- the other triangle turns left too
  pub left_side : (a b c d : ℕ) → AreApart points a c b d → IsLeft points a b c → IsLeft points a c d
  left_side a b c d (inl h) t = absurd (clash a b c t h.0)
  left_side a b c d (inr h) t = h.1

  pub other_way : (a b c d : ℕ) → AreApart points a c b d → ¬ IsLeft points a b c → IsLeft points a d c × IsLeft points a c b
  other_way a b c d (inl h) n = (turned (plane points P) h.1, h.0)
  other_way a b c d (inr h) n = absurd (n (turned (plane points P) h.0))

  -- by the ends of the edges
  pub flip_left : (e f : Edge) → IsSegment points e → IsSegment points f → Crosses points e f → IsLeft points e.0 f.0 e.1 → IsEmpty points e.0 f.0 e.1 f.1 ↔ MayFlip points e f
  flip_left e f s r x t =
      subst₂ (λ g h. IsEmpty points e.0 f.0 e.1 f.1 ↔ MayFlip points g h) i j
      (empty_iff e.0 f.0 e.1 f.1 (subst (IsSegment points) (sym i) s) (subst (IsSegment points) (sym j) r) (subst₂ (Crosses points) (sym i) (sym j) x) t)
    where
      i : edge e.0 e.1 ≡ e
      i = edge_of e s.low_first

      j : edge f.0 f.1 ≡ f
      j = edge_of f r.low_first

  pub flip_right : (e f : Edge) → IsSegment points e → IsSegment points f → Crosses points e f → ¬ IsLeft points e.0 f.0 e.1 → IsEmpty points e.0 f.1 e.1 f.0 ↔ MayFlip points e f
  flip_right e f s r x n =
      subst₂ (λ g h. IsEmpty points e.0 f.1 e.1 f.0 ↔ MayFlip points g h) i j
      (empty_iff e.0 f.1 e.1 f.0 (subst (IsSegment points) (sym i) s) (subst (IsSegment points) (sym j) r) (subst₂ (Crosses points) (sym i) (sym j) x) (other x.0))
    where
      i : edge e.0 e.1 ≡ e
      i = edge_of e s.low_first

      j : edge f.1 f.0 ≡ f
      j = edge_swap f.1 f.0 ∙ edge_of f r.low_first

      other : AreApart points e.0 e.1 f.0 f.1 → IsLeft points e.0 f.1 e.1
      other (inl h) = turned (plane points P) h.1
      other (inr h) = absurd (n (turned (plane points P) h.0))

-- the same ends of two edges under other names
pub ends : (points : List Point) {a b c d x y z w : ℕ} → a ≡ x → b ≡ y → c ≡ z → d ≡ w → AreApart points x z y w → AreApart points a c b d
ends points {a} {b} {c} {d} {x} {y} {z} {w} i j k l h = subst₂ (λ a c. AreApart points a c b d) (sym i) (sym k) (subst₂ (λ b d. AreApart points x z b d) (sym j) (sym l) h)
