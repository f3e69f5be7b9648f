-- Sets of edges that grow edge by edge, and the sides of quadrilaterals that are added to them.
use Rattle.std.proofs.Common.{◌≡◌, ◌≢◌, ◌⊎◌, inl, inr, ◌↔◌, ℕ, ◌+◌, ◌<◌, ◌≤◌, List, [], ◌∷◌, ◌++◌, length, get_or, take, Contains, IsPermutation, sym, subst}
use Rattle.std.proofs.lemmas.List.Elements.{Contains-push, Contains-append_left}
use Rattle.std.proofs.lemmas.List.Sorted.{Contains-permutation}
use Rattle.geo_orient.specs.declared.Point.{Point}
use Rattle.edge_table.specs.declared.edge.Edge.{Edge}
use Rattle.edge_table.specs.Edges.{edge, AddsEdge}
use Rattle.tri_theory.specs.Flips.{Flips}
use Rattle.flip_mesh.specs.declared.mesh.Quad.{Quad}
use Rattle.replay.specs.Independent.{ShareTriangle}
use Rattle.replay.specs.Steps.{IsOuterSide}
use Rattle.replay.proofs.Lists.{more_cases, more_here, all_inside, taken_inside}
use Rattle.plan_moves.specs.Rounds.{HasEachLower, HasEachNeighbour, AddsNeighbours, HaveSameMembers}

-- ---- sets
pub same_none : (edges items : List Edge) → edges ≡ [] → HaveSameMembers edges (take 0 items)
same_none edges items e d = subst (λ es. Contains es d ↔ Contains [] d) (sym e) (λ h. h, λ h. h)

pub same_more : (items edges next : List Edge) (i : ℕ) (e : Edge) → i < length items → e ≡ get_or items i e → HaveSameMembers edges (take i items) → AddsEdge edges next e → HaveSameMembers next (take (i + 1) items)
same_more items edges next i e l m S A d = (λ h. more_here items i e d l m (to ((A d).0 h)), λ h. (A d).1 (from (more_cases items i e d l m h)))
  where
    to : Contains edges d ⊎ (d ≡ e) → Contains (take i items) d ⊎ (e ≡ d)
    to (inl h) = inl ((S d).0 h)
    to (inr h) = inr (sym h)

    from : Contains (take i items) d ⊎ (e ≡ d) → Contains edges d ⊎ (d ≡ e)
    from (inl h) = inl ((S d).1 h)
    from (inr h) = inr (sym h)

pub same_all : (items edges : List Edge) (i : ℕ) → length items ≤ i → HaveSameMembers edges (take i items) → HaveSameMembers edges items
same_all items edges i l S d = (λ h. taken_inside i items d ((S d).0 h), λ h. (S d).1 (all_inside i items d l h))

-- ---- sides
added : (es fs : List Edge) (x f : Edge) → fs ≡ es ++ x ∷ [] → Contains es f ⊎ (f ≡ x) → Contains fs f
added es fs x f e (inl h) = subst (λ gs. Contains gs f) (sym e) (Contains-append_left es (x ∷ []) f h)
added es fs x f e (inr h) = subst (λ gs. Contains gs f) (sym e) (subst (Contains (es ++ x ∷ [])) (sym h) (Contains-push es x))

pub four_added : (q : Quad) (old ab bc cd da : List Edge)
    → ab ≡ old ++ edge q.a q.b ∷ [] → bc ≡ ab ++ edge q.b q.c ∷ [] → cd ≡ bc ++ edge q.c q.d ∷ [] → da ≡ cd ++ edge q.d q.a ∷ [] → (f : Edge) → Contains old f ⊎ IsOuterSide q f → Contains da f
four_added q old ab bc cd da e1 e2 e3 e4 f (inl h) = added cd da (edge q.d q.a) f e4 (inl (added bc cd (edge q.c q.d) f e3 (inl (added ab bc (edge q.b q.c) f e2 (inl (added old ab (edge q.a q.b) f e1 (inl h)))))))
four_added q old ab bc cd da e1 e2 e3 e4 f (inr (inl h)) =
    added cd da (edge q.d q.a) f e4 (inl (added bc cd (edge q.c q.d) f e3 (inl (added ab bc (edge q.b q.c) f e2 (inl (added old ab (edge q.a q.b) f e1 (inr h)))))))
four_added q old ab bc cd da e1 e2 e3 e4 f (inr (inr (inl h))) = added cd da (edge q.d q.a) f e4 (inl (added bc cd (edge q.c q.d) f e3 (inl (added ab bc (edge q.b q.c) f e2 (inr h)))))
four_added q old ab bc cd da e1 e2 e3 e4 f (inr (inr (inr (inl h)))) = added cd da (edge q.d q.a) f e4 (inl (added bc cd (edge q.c q.d) f e3 (inr h)))
four_added q old ab bc cd da e1 e2 e3 e4 f (inr (inr (inr (inr h)))) = added cd da (edge q.d q.a) f e4 (inr h)

module _ (points : List Point) (T : List Edge) where
  pub neighbours_more : (round sides next : List Edge) (i : ℕ) (e : Edge) → i < length round → e ≡ get_or round i e → HasEachNeighbour points T (take i round) sides → AddsNeighbours points T e sides next → HasEachNeighbour points T (take (i + 1) round) next
  neighbours_more round sides next i e l m H A d f h s n = by_cases (more_cases round i e d l m h)
    where
      by_cases : Contains (take i round) d ⊎ (e ≡ d) → Contains next f
      by_cases (inl k) = A f (inl (H d f k s n))
      by_cases (inr x) = A f (inr (subst (λ c. f ≢ c) (sym x) n, subst (λ c. ShareTriangle points T c f) (sym x) s))

  pub neighbours_all : (round sides sorted edges : List Edge) (i : ℕ) → length round ≤ i → HasEachNeighbour points T (take i round) sides → IsPermutation sides sorted → HaveSameMembers edges sorted → HasEachNeighbour points T round edges
  neighbours_all round sides sorted edges i l H p S d f h s n = (S f).1 (Contains-permutation sides sorted f p (H d f (all_inside i round d l h) s n))

  -- the edges that flip are candidates
  pub flippable_candidates : (centre flippable candidates : List Edge) → ((e : Edge) → Contains flippable e ↔ Flips points T e) → HaveSameMembers candidates flippable → HasEachLower points centre T candidates
  flippable_candidates centre flippable candidates A S e f h l = (S e).1 ((A e).1 (f, h))
