-- The hull segments, found one after the other.
use Rattle.std.proofs.Common.{◌≡◌, ◌⊎◌, inl, inr, ℕ, ◌+◌, ◌<◌, ◌≤◌, List, [], length, Contains, sym, ◌∙◌, subst, arith}
use Rattle.geo_orient.specs.declared.Point.{Point}
use Rattle.edge_table.specs.declared.edge.Edge.{Edge}
use Rattle.edge_table.specs.Edges.{edge, IsBefore, IsAscending, AddsEdge}
use Rattle.edge_table.proofs.Edges.{pair, edge_of}
use Rattle.tri_theory.specs.Inputs.{IsHullSegment}
use Rattle.tri_check.specs.Stages.{AreHull}
use Rattle.tri_check.specs.Hulls.{IsHullBelow, edge_from}
use Rattle.tri_check.proofs.Searches.{split}

before_next : (e : Edge) (a b : ℕ) → IsBefore e (edge_from a (b + 1)) → IsBefore e (edge_from a b) ⊎ (e ≡ edge_from a b)
before_next e a b (inl h) = inl (inl h)
before_next e a b (inr (k, h)) = by_cases (split b e.1 h)
  where
    by_cases : (e.1 < b) ⊎ (e.1 ≡ b) → IsBefore e (edge_from a b) ⊎ (e ≡ edge_from a b)
    by_cases (inl l) = inl (inr (k, l))
    by_cases (inr l) = inr (pair k l)

pub hull_skip : (points : List Point) (edges : List Edge) (a b : ℕ) → IsHullBelow points edges a b → ¬ IsHullSegment points (edge_from a b) → IsHullBelow points edges a (b + 1)
hull_skip points edges a b H no_segment = record { ascending = H.ascending; sound = H.sound; whole = λ e s l. by_cases e s (before_next e a b l) }
  where
    by_cases : (e : Edge) → IsHullSegment points e → IsBefore e (edge_from a b) ⊎ (e ≡ edge_from a b) → Contains edges e
    by_cases e s (inl l) = H.whole e s l
    by_cases e s (inr i) = absurd (no_segment (subst (IsHullSegment points) i s))

pub hull_add : (points : List Point) (old new : List Edge) (a b : ℕ) (e : Edge) → a < b → IsHullBelow points old a b → IsHullSegment points (edge_from a b) → AddsEdge old new e → IsAscending new → e ≡ edge a b → IsHullBelow points new a (b + 1)
hull_add points old new a b e h H segment adds up is = record {
  ascending = up;
  sound = λ f k. sound f ((adds f).0 k);
  whole = λ f s l. (adds f).1 (whole f s (before_next f a b l));
}
  where
    same : e ≡ edge_from a b
    same = is ∙ edge_of (edge_from a b) h

    sound : (f : Edge) → Contains old f ⊎ (f ≡ e) → IsHullSegment points f
    sound f (inl k) = H.sound f k
    sound f (inr i) = subst (IsHullSegment points) (sym (i ∙ same)) segment

    whole : (f : Edge) → IsHullSegment points f → IsBefore f (edge_from a b) ⊎ (f ≡ edge_from a b) → Contains old f ⊎ (f ≡ e)
    whole f s (inl l) = inl (H.whole f s l)
    whole f s (inr i) = inr (i ∙ sym same)

pub hull_begin : (points : List Point) (edges : List Edge) (a : ℕ) → IsHullBelow points edges a 0 → IsHullBelow points edges a (a + 1)
hull_begin points edges a H = record { ascending = H.ascending; sound = H.sound; whole = λ e s l. by_cases e s l }
  where
    by_cases : (e : Edge) → IsHullSegment points e → IsBefore e (edge_from a (a + 1)) → Contains edges e
    by_cases e s (inl l) = H.whole e s (inl l)
    by_cases e s (inr (k, l)) = absurd (let o = s.0.low_first in omega arith)

pub hull_end : (points : List Point) (edges : List Edge) (a b : ℕ) → length points ≤ b → IsHullBelow points edges a b → IsHullBelow points edges (a + 1) 0
hull_end points edges a b h H = record { ascending = H.ascending; sound = H.sound; whole = λ e s l. by_cases e s l }
  where
    by_lower : (e : Edge) → IsHullSegment points e → (e.0 < a) ⊎ (e.0 ≡ a) → Contains edges e
    by_lower e s (inl l) = H.whole e s (inl l)
    by_lower e s (inr i) = H.whole e s (inr (i, (let o = s.0.in_range in omega arith)))

    by_cases : (e : Edge) → IsHullSegment points e → IsBefore e (edge_from (a + 1) 0) → Contains edges e
    by_cases e s (inl l) = by_lower e s (split a e.0 l)
    by_cases e s (inr (k, l)) = absurd (omega arith)

pub hull_none : (points : List Point) → IsHullBelow points [] 0 0
hull_none points = record { ascending = λ i j d h k. absurd (omega arith); sound = λ e h. absurd (none e h); whole = λ e s l. absurd (first e l) }
  where
    none : (e : Edge) → Contains [] e → ⊥
    none e (k, l, h) = omega arith

    first : (e : Edge) → IsBefore e (edge_from 0 0) → ⊥
    first e (inl l) = omega arith
    first e (inr (k, l)) = omega arith

pub hull_all : (points : List Point) (edges : List Edge) (a : ℕ) → length points ≤ a → IsHullBelow points edges a 0 → AreHull points edges
hull_all points edges a h H = record { ascending = H.ascending; members = λ e. (H.sound e, λ s. H.whole e s (inl (let o = s.0.low_first in let r = s.0.in_range in omega arith))) }
