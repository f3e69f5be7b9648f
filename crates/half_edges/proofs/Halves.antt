-- Half edges, and where those from each point begin, one more at a time.
use Rattle.std.proofs.Common.{◌≡◌, ◌∙◌, ◌⊎◌, inl, inr, ℕ, zero, suc, ◌+◌, ◌<◌, List, [], ◌∷◌, ◌++◌, length, take, get_or, slice_get, Some, Contains, refl, sym, ap, ap₂, subst, arith}
use Rattle.std.proofs.lemmas.Option.{slice_get_within, get_or_from_slice_get}
use Rattle.std.proofs.lemmas.List.{take_more, map_push, length-append}
use Rattle.std.proofs.lemmas.List.Elements.{Contains-get_or, Contains-push_cases}
use Rattle.geo_orient.specs.declared.Point.{Point}
use Rattle.edge_table.specs.declared.edge.Edge.{Edge}
use Rattle.edge_table.proofs.Edges.{pair}
use Rattle.tri_theory.specs.Triangulations.{AreJoined}
use Rattle.tri_check.specs.Layouts.{Layout}
use Rattle.half_edges.specs.declared.half.HalfEdge.{HalfEdge}
use Rattle.half_edges.specs.Graphs.{AreBegins, AreDirected, IsBegin, IsGraph, IsHalf, ways_of}

pub edge_more : (es : List Edge) (i : ℕ) (e : Edge) (u v : ℕ) (old new : List Edge) → old ≡ take i es → slice_get es i ≡ Some e → u ≡ e.0 → v ≡ e.1 → new ≡ old ++ (u, v) ∷ [] → new ≡ take (i + 1) es
edge_more es i e u v old new h g p q k =
    k ∙ ap₂ (λ (xs : List Edge) (x : Edge). xs ++ x ∷ []) h (pair p q ∙ sym (get_or_from_slice_get es i e e g)) ∙ sym (take_more es i e (slice_get_within es i e g))

-- ---- half edges
pub joined_at : (edges ws : List Edge) → AreDirected edges ws → (i : ℕ) (d : Edge) → i < length ws → AreJoined edges (get_or ws i d).0 (get_or ws i d).1
joined_at edges ws D i d l = (D.members _ _).0 (Contains-get_or ws i d l)

pub ways_more : (ws : List Edge) (i : ℕ) (hs new : List HalfEdge) (h : HalfEdge) (d : Edge) → ways_of hs ≡ take i ws → i < length ws → h.from ≡ (get_or ws i d).0 → h.to ≡ (get_or ws i d).1 → new ≡ hs ++ h ∷ [] → ways_of new ≡ take (i + 1) ws
ways_more ws i hs new h d e l p q k =
    ap ways_of k ∙ map_push (λ (x : HalfEdge). (x.from, x.to)) hs h ∙ ap₂ (λ (xs : List Edge) (x : Edge). xs ++ x ∷ []) e (pair p q) ∙ sym (take_more ws i d l)

pub halves_more : (points : List Point) (edges ws : List Edge) (hs new : List HalfEdge) (h : HalfEdge) → ((x : HalfEdge) → Contains hs x → IsHalf points edges ws x) → IsHalf points edges ws h → new ≡ hs ++ h ∷ []
    → (x : HalfEdge) → Contains new x → IsHalf points edges ws x
halves_more points edges ws hs new h H one k x there = by_cases (Contains-push_cases hs h x (subst (λ xs. Contains xs x) k there))
  where
    by_cases : Contains hs x ⊎ (h ≡ x) → IsHalf points edges ws x
    by_cases (inl m) = H x m
    by_cases (inr e) = subst (IsHalf points edges ws) e one

-- ---- where they begin
pushed : (bs : List ℕ) (b k i : ℕ) → slice_get (bs ++ b ∷ []) k ≡ Some i → (slice_get bs k ≡ Some i) ⊎ ((k ≡ length bs) × (b ≡ i))
pushed [] b zero i e = inr (refl, get_or_from_slice_get (b ∷ []) zero i i e)
pushed [] b (suc k) i e = let l = slice_get_within (b ∷ []) (suc k) i e in absurd (omega arith)
pushed (x ∷ bs) b zero i e = inl e
pushed (x ∷ bs) b (suc k) i e = by_cases (pushed bs b k i e)
  where
    by_cases : (slice_get bs k ≡ Some i) ⊎ ((k ≡ length bs) × (b ≡ i)) → (slice_get bs k ≡ Some i) ⊎ ((suc k ≡ suc (length bs)) × (b ≡ i))
    by_cases (inl h) = inl h
    by_cases (inr h) = inr (ap suc h.0, h.1)

pub begins_more : (ws : List Edge) (bs new : List ℕ) (u b : ℕ) → length bs ≡ u → ((k i : ℕ) → slice_get bs k ≡ Some i → IsBegin ws k i) → IsBegin ws u b → new ≡ bs ++ b ∷ [] → AreBegins u ws new
begins_more ws bs new u b e H one k = subst (AreBegins u ws) (sym k) (record { long = (let l = length-append bs (b ∷ []) in omega arith); places = λ j i h. by_cases j i (pushed bs b j i h) })
  where
    by_cases : (j i : ℕ) → (slice_get bs j ≡ Some i) ⊎ ((j ≡ length bs) × (b ≡ i)) → IsBegin ws j i
    by_cases j i (inl h) = H j i h
    by_cases j i (inr h) = subst (λ x. IsBegin ws x i) (sym (h.0 ∙ e)) (subst (IsBegin ws u) h.1 one)

-- ---- all together
pub made : (t mesh : Layout) (ws first second : List Edge) (hs : List HalfEdge) (bs : List ℕ) (n : ℕ) → mesh ≡ t → AreDirected t.edges ws → first ≡ ws → second ≡ ws
    → ways_of hs ≡ first → ((h : HalfEdge) → Contains hs h → IsHalf mesh.points mesh.edges first h) → n ≡ length t.points → AreBegins n second bs → IsGraph t.points t.edges (record { halves = hs; begins = bs })
made t mesh ws first second hs bs n m D f s e H k B = record {
  directed = subst (AreDirected t.edges) (sym (e ∙ f)) D;
  halves = λ h c. subst (λ x. IsHalf t.points t.edges x h) (sym e) (subst (λ (l : Layout). IsHalf l.points l.edges first h) m (H h c));
  begins = subst (λ x. AreBegins (length t.points) x bs) (s ∙ sym (e ∙ f)) (subst (λ x. AreBegins x second bs) k B);
}
