-- Ways at their places, and the ways of a triangulation.
use Rattle.std.proofs.Common.{◌≡◌, ◌∙◌, ◌⊎◌, inl, inr, ℕ, ◌<◌, ◌≤◌, List, length, get_or, map, slice_get, None, Some, Contains, sym, ap, subst, subst₂, arith}
use Rattle.std.proofs.lemmas.Option.{slice_get-get_or, slice_get_within, get_or_from_slice_get}
use Rattle.std.proofs.lemmas.List.{length-map, get_or-map}
use native.Mathlib.Decide.{ℕ_discrete}
use Rattle.geo_orient.specs.declared.Point.{Point}
use Rattle.edge_table.specs.declared.edge.Edge.{Edge}
use Rattle.edge_table.specs.Edges.{IsAscending, IsBefore}
use Rattle.edge_table.proofs.Edges.{edge_swap}
use Rattle.edge_table.specs.Order.{IsAt, BelongsAt}
use Rattle.tri_theory.specs.Triangulations.{AreJoined}
use Rattle.tri_check.specs.Layouts.{IsTriangulated}
use Rattle.side_table.specs.declared.side.Side.{Side}
use Rattle.side_table.specs.Sides.{side, HasSide}
use Rattle.side_table.proofs.Ordered.{way}
use Rattle.flip_mesh.specs.Places.{IsSideAt}
use Rattle.flip_mesh.specs.Build.{AreWays}
use Rattle.flip_mesh.proofs.Writes.{below_or}
use Rattle.flip_mesh.proofs.Places.{at_there}
use Rattle.flip_mesh.proofs.Built.{way_there}
use Rattle.half_edges.specs.Graphs.{AreDirected, IsBegin}

-- ---- what a search finds
pub placed : (ws : List Edge) (w : Edge) (i : ℕ) → IsAt ws w i → slice_get ws i ≡ Some w
placed ws w i h = slice_get-get_or ws i w h.within ∙ ap (λ (x : Edge). Some x) h.there

-- ---- where the ways from a point begin
lower : (u : ℕ) (w : Edge) → IsBefore w (u, 0) → w.0 < u
lower u w (inl h) = h
lower u w (inr h) = let l = h.1 in omega arith

not_lower : (u : ℕ) (w : Edge) → IsBefore (u, 0) w → w.0 < u → ⊥
not_lower u w (inl h) l = omega arith
not_lower u w (inr h) l = let e = h.0 in omega arith

pub begins_between : (ws : List Edge) (u i : ℕ) → BelongsAt ws (u, 0) i → IsBegin ws u i
begins_between ws u i h = record { within = h.within; first = λ k w e. (below k w e, λ l. above k w e l (below_or k i)) }
  where
    below : (k : ℕ) (w : Edge) → slice_get ws k ≡ Some w → k < i → w.0 < u
    below k w e l = lower u w (subst (λ x. IsBefore x (u, 0)) (get_or_from_slice_get ws k w w e) (h.below k w l))

    above : (k : ℕ) (w : Edge) → slice_get ws k ≡ Some w → w.0 < u → (k < i) ⊎ (i ≤ k) → k < i
    above k w e l (inl low) = low
    above k w e l (inr high) = absurd (not_lower u w (subst (IsBefore (u, 0)) (get_or_from_slice_get ws k w w e) (h.above k w high (slice_get_within ws k w e))) l)

pub begins_at : (ws : List Edge) (u i : ℕ) → IsAscending ws → IsAt ws (u, 0) i → IsBegin ws u i
begins_at ws u i up h = record { within = (let l = h.within in omega arith); first = λ k w e. (below k w e, λ l. above k w e l (below_or k i) (ℕ_discrete k i)) }
  where
    below : (k : ℕ) (w : Edge) → slice_get ws k ≡ Some w → k < i → w.0 < u
    below k w e l = lower u w (subst₂ IsBefore (get_or_from_slice_get ws k w (u, 0) e) h.there (up k i (u, 0) l h.within))

    above : (k : ℕ) (w : Edge) → slice_get ws k ≡ Some w → w.0 < u → (k < i) ⊎ (i ≤ k) → Dec (k ≡ i) → k < i
    above k w e l (inl low) _ = low
    above k w e l (inr high) (no n) =
        absurd (not_lower u w (subst₂ IsBefore h.there (get_or_from_slice_get ws k w (u, 0) e) (up i k (u, 0) (omega arith) (slice_get_within ws k w e))) l)
    above k w e l (inr high) (yes f) =
        let g : w.0 ≡ u = ap (λ (x : Edge). x.0) (sym (get_or_from_slice_get ws k w (u, 0) e) ∙ ap (λ j. get_or ws j (u, 0)) f ∙ h.there) in
        absurd (omega arith)

-- ---- the edges in both directions
pub directed : (points : List Point) (edges : List Edge) (ss : List Side) → IsTriangulated points edges → AreWays ss edges → AreDirected edges (map way ss)
directed points edges ss I W = record { ascending = up; members = λ u v. (joined u v, there u v) }
  where
    like : Edge → Side
    like e = side e.0 e.1 None

    long : length (map way ss) ≡ length ss
    long = length-map ss way

    up : IsAscending (map way ss)
    up i j d l m =
        let n = long in
        let k : j < length ss = omega arith in
        subst₂ IsBefore (sym (get_or-map way ss i (like d) d (omega arith))) (sym (get_or-map way ss j (like d) d k)) (W.ordered i j (like d) l k)

    joined : (u v : ℕ) → Contains (map way ss) (u, v) → AreJoined edges u v
    joined u v (k, l, e) = W.joined u v (at_there ss u v k (side u v None) at)
      where
        inside : k < length ss
        inside = let n = long in omega arith

        same : (d : Side) → way (get_or ss k d) ≡ (u, v)
        same d = sym (get_or-map way ss k d (u, v) inside) ∙ e

        at : IsSideAt ss u v k
        at = record { within = inside; from = λ d. ap (λ (x : Edge). x.0) (same d); to = λ d. ap (λ (x : Edge). x.1) (same d) }

    found : (u v : ℕ) → HasSide ss u v → Contains (map way ss) (u, v)
    found u v h = listed h.there
      where
        listed : Contains ss (side u v h.apex) → Contains (map way ss) (u, v)
        listed (k, l, e) = (k, (let n = long in omega arith), get_or-map way ss k (side u v h.apex) (u, v) l ∙ ap way e)

    there : (u v : ℕ) → AreJoined edges u v → Contains (map way ss) (u, v)
    there u v j = found u v (way_there points edges ss I W u v j)

pub directed_by : (points : List Point) (edges : List Edge) (table sides given : List Side) (ws : List Edge) → IsTriangulated points edges → AreWays table edges → sides ≡ table → given ≡ sides → ws ≡ map way given → AreDirected edges ws
directed_by points edges table sides given ws I W e f g = subst (AreDirected edges) (sym (g ∙ ap (map way) (f ∙ e))) (directed points edges table I W)

pub swapped : (edges : List Edge) (u v : ℕ) → AreJoined edges u v → AreJoined edges v u
swapped edges u v j = subst (Contains edges) (edge_swap u v) j
