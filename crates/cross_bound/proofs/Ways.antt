-- What the code says of the members that a segment crosses, and what the walk says.
use Rattle.std.proofs.Common.{◌≡◌, inl, inr, ℕ, suc, ◌+◌, ◌^◌, ◌<◌, ◌≤◌, List, ◌∷◌, length, ap, arith}
use Rattle.geo_orient.specs.declared.Point.{Point}
use Rattle.edge_table.specs.declared.edge.Edge.{Edge}
use Rattle.tri_theory.specs.Points.{ArePlaced}
use Rattle.tri_theory.specs.Triangulations.{IsEmptyTriangle, IsSegment, IsTriangulation}
use Rattle.tri_theory.specs.Crossings.{crossings}
use Rattle.tri_theory.proofs.Lists.{tri_to, tri_from}
use Rattle.cross_bound.specs.declared.walk.Way.{Way}
use Rattle.cross_bound.specs.Walks.{IsCrossed, IsFirst, IsNext}
use Rattle.crossing_law.proofs.Fewness.{crossings_fit}
use Rattle.cross_bound.proofs.Walking as walking
use Rattle.cross_bound.proofs.WalkCounts as counts

module _ (points : List Point) (P : ArePlaced points) (T : List Edge) (I : IsTriangulation points T) (e : Edge) (s : IsSegment points e) where
  pub over_of : (w : Way) → IsCrossed points T e w → counts.Crossed points P T I e s (w.left, w.right)
  over_of w c = record { joined = c.joined; on_left = c.on_left; on_right = c.on_right; before = c.before; behind = c.behind }

  pub crossed_of : (w : Way) → counts.Crossed points P T I e s (w.left, w.right) → IsCrossed points T e w
  crossed_of w c = record { joined = c.joined; on_left = c.on_left; on_right = c.on_right; before = c.before; behind = c.behind }

  pub then_of : (w m : Way) → IsNext points T e w m → counts.Then points P T I e s (w.left, w.right) (m.left, m.right)
  then_of w m n = elim n.shares [ inl h ↦ inl (h.0, tri_to points P T m.right m.left w.left h.1) | inr h ↦ inr (h.0, tri_to points P T m.right m.left w.right h.1) ]

  pub next_of : (w m : Way) → counts.Crossed points P T I e s (m.left, m.right) → counts.Then points P T I e s (w.left, w.right) (m.left, m.right) → IsNext points T e w m
  next_of w m c (inl h) = record { crossed = crossed_of m c; shares = inl (h.0, tri_from points P T m.right m.left w.left h.1) }
  next_of w m c (inr h) = record { crossed = crossed_of m c; shares = inr (h.0, tri_from points P T m.right m.left w.right h.1) }

-- the walk goes on from a way, and with so many ways counted it comes to all members that cross
pub record IsCounted (points : List Point) (T : List Edge) (e : Edge) (w : Way) (k : ℕ) : Type 0 where
  pub walk : (P : ArePlaced points) (I : IsTriangulation points T) (s : IsSegment points e)
      → (rest : List walking.Way) × counts.Path points P T I e s ((w.left, w.right) ∷ rest) × counts.Ends points P T I e s ((w.left, w.right) ∷ rest) × (k + length rest ≡ crossings points T e)

module _ (points : List Point) (P : ArePlaced points) (T : List Edge) (I : IsTriangulation points T) (e : Edge) (s : IsSegment points e) where
  pub counted_first : (w : Way) → IsFirst points T e w → IsCounted points T e w 1
  counted_first w f = record {
    walk = λ P I s. from_start (counts.whole_walk points P T I e s (w.left, w.right) (over_of points P T I e s w f.crossed) (tri_to points P T w.right w.left e.0 f.corner));
  }
    where
      from_start : {A B : List walking.Way → Type 0} → (rest : List walking.Way) × A rest × B rest × (suc (length rest) ≡ crossings points T e) → (rest : List walking.Way) × A rest × B rest × (1 + length rest ≡ crossings points T e)
      from_start (rest, p, g, l) = (rest, p, g, omega (arith, l))

  pub counted_crossed : (w : Way) (k : ℕ) → IsCounted points T e w k → IsCrossed points T e w
  counted_crossed w k c = by_walk (c.walk P I s)
    where
      by_walk : (rest : List walking.Way) × counts.Path points P T I e s ((w.left, w.right) ∷ rest) × counts.Ends points P T I e s ((w.left, w.right) ∷ rest) × (k + length rest ≡ crossings points T e) → IsCrossed points T e w
      by_walk (rest, p, g, l) = crossed_of points P T I e s w (counts.first_crossed points P T I e s (w.left, w.right) rest p)

  pub counted_below : (w m : Way) (k : ℕ) → IsCounted points T e w k → IsNext points T e w m → k + 1 ≤ crossings points T e
  counted_below w m k c n = by_walk (c.walk P I s)
    where
      by_walk : (rest : List walking.Way) × counts.Path points P T I e s ((w.left, w.right) ∷ rest) × counts.Ends points P T I e s ((w.left, w.right) ∷ rest) × (k + length rest ≡ crossings points T e) → k + 1 ≤ crossings points T e
      by_walk (rest, p, g, l) =
          let h = counts.at_step points P T I e s (w.left, w.right) (m.left, m.right) rest p g (over_of points P T I e s m n.crossed) (then_of points P T I e s w m n) in
          let i = h.3 in omega (arith, i, l)

  pub counted_end : (w : Way) (k : ℕ) → IsCounted points T e w k → IsEmptyTriangle points T w.left w.right e.1 → k ≡ crossings points T e
  counted_end w k c t = by_walk (c.walk P I s)
    where
      by_walk : (rest : List walking.Way) × counts.Path points P T I e s ((w.left, w.right) ∷ rest) × counts.Ends points P T I e s ((w.left, w.right) ∷ rest) × (k + length rest ≡ crossings points T e) → k ≡ crossings points T e
      by_walk (rest, p, g, l) =
          let h : length rest ≡ 0 = ap length (counts.at_end points P T I e s (w.left, w.right) rest p (tri_to points P T w.left w.right e.1 t)) in
          omega (arith, h, l)

  pub count_fits : (w m : Way) (k : ℕ) → length points ≤ 16384 → IsCounted points T e w k → IsNext points T e w m → k + 1 < 2 ^ 32
  count_fits w m k l c n = let h = counted_below w m k c n in let f = crossings_fit points T e I l in omega (arith, h, f)

pub counted_next : (points : List Point) (T : List Edge) (e : Edge) (w m : Way) (k : ℕ) → IsCounted points T e w k → IsNext points T e w m → IsCounted points T e m (k + 1)
counted_next points T e w m k c n = record { walk = λ P I s. by_walk P I s (c.walk P I s) }
  where
    by_walk : (P : ArePlaced points) (I : IsTriangulation points T) (s : IsSegment points e)
        → (rest : List walking.Way) × counts.Path points P T I e s ((w.left, w.right) ∷ rest) × counts.Ends points P T I e s ((w.left, w.right) ∷ rest) × (k + length rest ≡ crossings points T e)
        → (rest : List walking.Way) × counts.Path points P T I e s ((m.left, m.right) ∷ rest) × counts.Ends points P T I e s ((m.left, m.right) ∷ rest) × (k + 1 + length rest ≡ crossings points T e)
    by_walk P I s (rest, p, g, l) =
        let h = counts.at_step points P T I e s (w.left, w.right) (m.left, m.right) rest p g (over_of points P T I e s m n.crossed) (then_of points P T I e s w m n) in
        let i = h.3 in (h.0, h.1, h.2, omega (arith, i, l))
