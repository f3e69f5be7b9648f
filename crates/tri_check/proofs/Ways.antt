-- The hull segments along two chains.
use Rattle.std.proofs.Common.{◌≡◌, ◌≢◌, ◌⊎◌, inl, inr, ℕ, ◌+◌, ◌<◌, ◌≤◌, ℤ, pos, ◌+ℤ◌, neg_ℤ, ◌<ℤ◌, List, [], length, Contains, refl, sym, ap, ◌∙◌, subst, arith}
use Rattle.std.proofs.lemmas.Int.{ints}
use native.Mathlib.Decide.{dec_lt}
use Rattle.geo_orient.specs.declared.Point.{Point}
use Rattle.geo_orient.proofs.IntSigns.{IsPos, signs}
use Rattle.edge_table.specs.declared.edge.Edge.{Edge}
use Rattle.edge_table.specs.Edges.{edge, IsAscending, AddsEdge}
use Rattle.edge_table.proofs.Edges.{edge_of, edge_swap}
use Rattle.tri_theory.specs.Points.{point, IsLeft, Separates, ArePlaced}
use Rattle.tri_theory.specs.Inputs.{IsHullSegment}
use Rattle.tri_theory.proofs.Placed.{apart_points}
use Rattle.tri_theory.proofs.Lists.{plane}
use Rattle.planar_law.specs.Chains.{key, height, link, AreKeys, IsChain, IsHullWay, IsLinked}
use Rattle.planar_law.proofs.Proved.{chains_are_hulls}
use Rattle.planar_law.proofs.Halves.{same_key}
use Rattle.tri_check.specs.Layouts.{AreInReach}
use Rattle.tri_check.specs.Stages.{AreHull}
use Rattle.tri_check.specs.Hulls.{IsLinkedBelow, AddsLinks}
use Rattle.tri_check.proofs.Searches.{split}

-- ---- the sides of a chain, added one after the other
pub links_none : (before edges : List Edge) (chain : List ℕ) → IsAscending before → edges ≡ before → AddsLinks before edges chain 0
links_none before edges chain up e = subst (λ es. AddsLinks before es chain 0) (sym e) (record { ascending = up; members = λ f. (λ h. inl h, λ h. old f h) })
  where
    old : (f : Edge) → Contains before f ⊎ IsLinkedBelow chain 0 f → Contains before f
    old f (inl h) = h
    old f (inr (k, l, w, i)) = absurd (omega (arith, l))

pub link_past : (before edges : List Edge) (chain : List ℕ) (j : ℕ) → length chain ≤ j + 1 → AddsLinks before edges chain j → AddsLinks before edges chain (j + 1)
link_past before edges chain j past A = record { ascending = A.ascending; members = λ e. (λ h. more e ((A.members e).0 h), λ h. (A.members e).1 (less e h)) }
  where
    more : (e : Edge) → Contains before e ⊎ IsLinkedBelow chain j e → Contains before e ⊎ IsLinkedBelow chain (j + 1) e
    more e (inl h) = inl h
    more e (inr (k, l, w, i)) = inr (k, omega (arith, l), w, i)

    less : (e : Edge) → Contains before e ⊎ IsLinkedBelow chain (j + 1) e → Contains before e ⊎ IsLinkedBelow chain j e
    less e (inl h) = inl h
    less e (inr (k, l, w, i)) = inr (k, omega (arith, l, w, past), w, i)

pub link_more : (before old new : List Edge) (chain : List ℕ) (j : ℕ) (e : Edge) → j + 1 < length chain → AddsLinks before old chain j → AddsEdge old new e → IsAscending new → e ≡ edge (link chain j) (link chain (j + 1)) → AddsLinks before new chain (j + 1)
link_more before old new chain j e w A adds up is = record { ascending = up; members = λ f. (λ h. to f ((adds f).0 h), λ h. (adds f).1 (from f h)) }
  where
    to : (f : Edge) → Contains old f ⊎ (f ≡ e) → Contains before f ⊎ IsLinkedBelow chain (j + 1) f
    to f (inl h) = kept ((A.members f).0 h)
      where
        kept : Contains before f ⊎ IsLinkedBelow chain j f → Contains before f ⊎ IsLinkedBelow chain (j + 1) f
        kept (inl k) = inl k
        kept (inr (k, l, v, i)) = inr (k, omega (arith, l), v, i)
    to f (inr i) = inr (j, omega arith, w, i ∙ is)

    from : (f : Edge) → Contains before f ⊎ IsLinkedBelow chain (j + 1) f → Contains old f ⊎ (f ≡ e)
    from f (inl h) = inl ((A.members f).1 (inl h))
    from f (inr (k, l, v, i)) = by_case (split j k l)
      where
        by_case : (k < j) ⊎ (k ≡ j) → Contains old f ⊎ (f ≡ e)
        by_case (inl m) = inl ((A.members f).1 (inr (k, m, v, i)))
        by_case (inr s) = inr (i ∙ ap (λ q. edge (link chain q) (link chain (q + 1))) s ∙ sym is)

pub links_apart : (points : List Point) (keys : List ℤ) (chain : List ℕ) → IsChain points keys chain → (k : ℕ) → k + 1 < length chain → link chain k ≡ link chain (k + 1) → ⊥
links_apart points keys chain I k l e = none (height keys (link chain k)) (height keys (link chain (k + 1))) (ap (height keys) e) (I.rises k l)
  where
    none : (x y : ℤ) → x ≡ y → x <ℤ y → ⊥
    none x y f h = omega (arith, ints, f, h)

-- ---- ways along the hull, and hull segments
module _ (points : List Point) (placed : ArePlaced points) (reach : AreInReach points) where
  swap_clear : (a b p : ℕ) → ¬ Separates points a b p → ¬ Separates points b a p
  swap_clear a b p n m = n ((plane points placed).between_swap b a p m)

  -- the edge of such a way is a hull segment
  of_way : (keys : List ℤ) (a b : ℕ) → IsHullWay points keys a b → IsHullSegment points (edge a b)
  of_way keys a b W = by_test (dec_lt a b)
    where
      differ : a ≢ b
      differ e = none (height keys a) (height keys b) (ap (height keys) e) W.rises
        where
          none : (x y : ℤ) → x ≡ y → x <ℤ y → ⊥
          none x y f h = omega (arith, ints, f, h)

      by_test : Dec (a < b) → IsHullSegment points (edge a b)
      by_test (yes l) = subst (IsHullSegment points) (sym (edge_of (a, b) l)) (record { low_first = l; in_range = W.to; clear = W.clear }, inr W.closed)
      by_test (no nl) = let m : b < a = omega (arith, nl, differ) in subst (IsHullSegment points) (sym (edge_swap a b ∙ edge_of (b, a) m)) (record { low_first = m; in_range = W.from; clear = λ p hp. swap_clear a b p (W.clear p hp) }, inl W.closed)

  -- a way with all points on its left rises by the one keys or by the other
  module _ (up down : List ℤ) (U : (i : ℕ) → i < length points → height up i ≡ key (point points i)) (D : (i : ℕ) → i < length points → height down i ≡ neg_ℤ (key (point points i))) where
    rises : (a b : ℕ) → a < length points → b < length points → a ≢ b → (height up a <ℤ height up b) ⊎ (height down a <ℤ height down b)
    rises a b ha hb ne = by_sign (signs (key (point points b) +ℤ neg_ℤ (key (point points a))))
      where
        low : (x y u v : ℤ) → x ≡ u → y ≡ v → IsPos (v +ℤ neg_ℤ u) → x <ℤ y
        low x y u v e f h = omega (arith, ints, e, f, h)

        high : (x y u v : ℤ) → x ≡ neg_ℤ u → y ≡ neg_ℤ v → IsPos (neg_ℤ (v +ℤ neg_ℤ u)) → x <ℤ y
        high x y u v e f h = omega (arith, ints, e, f, h)

        equal : (u v : ℤ) → v +ℤ neg_ℤ u ≡ pos 0 → u ≡ v
        equal u v e = omega (arith, ints, e)

        by_sign : IsPos (key (point points b) +ℤ neg_ℤ (key (point points a))) ⊎ (IsPos (neg_ℤ (key (point points b) +ℤ neg_ℤ (key (point points a)))) ⊎ (key (point points b) +ℤ neg_ℤ (key (point points a)) ≡ pos 0)) → (height up a <ℤ height up b) ⊎ (height down a <ℤ height down b)
        by_sign (inl h) = inl (low _ _ (key (point points a)) (key (point points b)) (U a ha) (U b hb) h)
        by_sign (inr (inl h)) = inr (high _ _ (key (point points a)) (key (point points b)) (D a ha) (D b hb) h)
        by_sign (inr (inr e)) = absurd (apart_points points placed a b ha hb ne (same_key (point points a) (point points b) (reach a ha) (reach b hb) (equal _ _ e)))

    module _ (first second : List ℕ) (KU : AreKeys points up) (KD : AreKeys points down) (F : IsChain points up first) (G : IsChain points down second) where
      -- a way with all points on its left, and none between, is a side of one of the chains
      abbrev IsSide : Edge → Type 0
      IsSide e = IsLinkedBelow first (length first) e ⊎ IsLinkedBelow second (length second) e

      side_of : (a b : ℕ) → a < length points → b < length points → a ≢ b → ((p : ℕ) → p < length points → ¬ IsLeft points b a p) → ((p : ℕ) → p < length points → ¬ Separates points a b p) → IsSide (edge a b)
      side_of a b ha hb ne closed clear = by_rise (rises a b ha hb ne)
        where
          as_side : (chain : List ℕ) → IsLinked chain a b → IsLinkedBelow chain (length chain) (edge a b)
          as_side chain (j, l, e, f) = (j, omega (arith, l), l, subst (λ x. edge x b ≡ edge (link chain j) (link chain (j + 1))) (sym e) (subst (λ y. edge (link chain j) y ≡ edge (link chain j) (link chain (j + 1))) (sym f) refl))

          by_rise : (height up a <ℤ height up b) ⊎ (height down a <ℤ height down b) → IsSide (edge a b)
          by_rise (inl h) = inl (as_side first ((chains_are_hulls points up first a b placed reach KU F).0 (record { from = ha; to = hb; rises = h; closed = closed; clear = clear })))
          by_rise (inr h) = inr (as_side second ((chains_are_hulls points down second a b placed reach KD G).0 (record { from = ha; to = hb; rises = h; closed = closed; clear = clear })))

      of_segment : (e : Edge) → IsHullSegment points e → IsSide e
      of_segment e (s, one) = by_side one
        where
          low : e.0 < length points
          low = (let l = s.low_first in let r = s.in_range in omega (arith, l, r))

          differ : e.0 ≢ e.1
          differ i = (let l = s.low_first in omega (arith, l, i))

          by_side : ((p : ℕ) → p < length points → ¬ IsLeft points e.0 e.1 p) ⊎ ((p : ℕ) → p < length points → ¬ IsLeft points e.1 e.0 p) → IsSide e
          by_side (inl none) = subst IsSide (edge_swap e.1 e.0 ∙ edge_of e s.low_first) (side_of e.1 e.0 s.in_range low (λ i. differ (sym i)) none (λ p hp. swap_clear e.0 e.1 p (s.clear p hp)))
          by_side (inr none) = subst IsSide (edge_of e s.low_first) (side_of e.0 e.1 low s.in_range differ none s.clear)

      of_link : (keys : List ℤ) (chain : List ℕ) → AreKeys points keys → IsChain points keys chain → (e : Edge) → IsLinkedBelow chain (length chain) e → IsHullSegment points e
      of_link keys chain K I e (k, l, w, i) = subst (IsHullSegment points) (sym i) (of_way keys (link chain k) (link chain (k + 1)) ((chains_are_hulls points keys chain (link chain k) (link chain (k + 1)) placed reach K I).1 (k, w, refl, refl)))

      pub hull_of : (half edges : List Edge) → AddsLinks [] half first (length first) → AddsLinks half edges second (length second) → AreHull points edges
      hull_of half edges A B = record { ascending = B.ascending; members = λ e. (λ h. sound e ((B.members e).0 h), λ s. whole e (of_segment e s)) }
        where
          empty : (e : Edge) → Contains [] e → ⊥
          empty e (k, l, h) = omega (arith, l)

          from_half : (e : Edge) → Contains [] e ⊎ IsLinkedBelow first (length first) e → IsHullSegment points e
          from_half e (inl h) = absurd (empty e h)
          from_half e (inr s) = of_link up first KU F e s

          sound : (e : Edge) → Contains half e ⊎ IsLinkedBelow second (length second) e → IsHullSegment points e
          sound e (inl h) = from_half e ((A.members e).0 h)
          sound e (inr s) = of_link down second KD G e s

          whole : (e : Edge) → IsSide e → Contains edges e
          whole e (inl s) = (B.members e).1 (inl ((A.members e).1 (inr s)))
          whole e (inr s) = (B.members e).1 (inr s)
