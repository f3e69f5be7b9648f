-- The triangulations of all inputs, one after the other, and the instance that is made of them.
use Rattle.std.proofs.Common.{◌≡◌, ◌⊎◌, inl, inr, ℕ, suc, ◌+◌, ◌<◌, List, [], ◌∷◌, ◌++◌, map, sum, take, length, get_or, Contains, Some, slice_get, refl, sym, ap, ap₂, ◌∙◌, subst, arith}
use Rattle.std.specs.List.{AllZip}
use Rattle.std.proofs.lemmas.Option.{slice_get_within, get_or_from_slice_get}
use Rattle.std.proofs.lemmas.List.Sums.{sum-map, sum_by_more}
use Rattle.std.proofs.lemmas.List.{get_or-map, get_or_push, length-map, length_push, get_or_append_left}
use Rattle.geo_orient.specs.declared.Point.{Point}
use Rattle.edge_table.specs.declared.edge.Edge.{Edge}
use Rattle.tri_theory.specs.Triangulations.{IsTriangulation}
use Rattle.tri_check.specs.declared.raw.RawPair.{RawPair}
use Rattle.tri_check.specs.declared.fault.Bad.{Bad}
use Rattle.tri_check.specs.declared.fault.Bad.TheVariants.{BadVertex, Loop, Blocked, Crossing, LonePoint, OpenSide}
use Rattle.tri_check.specs.Layouts.{Layout}
use Rattle.tri_check.specs.Problems.{AreFewWeights, AreInputs, all_edges}
use Rattle.tri_check.specs.Faults.{IsCompletedInput, HoldsOfShape}
use Rattle.tri_check.specs.Stages.{AreSound, AreDone, IsInput, rank_of, input_of}
use Rattle.tri_check.proofs.Searches.{split}
use Rattle.tri_check.proofs.Order.{ranked}

-- ---- the number of pairs
pub sum_more : (xs : List (List RawPair)) (t : ℕ) (x : List RawPair) → slice_get xs t ≡ Some x → sum (map (λ pairs. length pairs) (take (t + 1) xs)) ≡ sum (map (λ pairs. length pairs) (take t xs)) + length x
sum_more xs t x h =
    sum-map (λ (pairs : List RawPair). length pairs) (take (t + 1) xs) ∙ sum_by_more (λ (pairs : List RawPair). length pairs) xs t x (slice_get_within xs t x h)
    ∙ ap₂ ◌+◌ (sym (sum-map (λ (pairs : List RawPair). length pairs) (take t xs))) (ap (λ (pairs : List RawPair). length pairs) (get_or_from_slice_get xs t x x h))

-- ---- triangulations
abbrev pub no_layout : Layout
no_layout = record { points = []; edges = [] }

pub done_more : (points : List Point) (raw : List (List RawPair)) (layouts new : List Layout) (t : ℕ) (layout : Layout) → AreDone points raw layouts t → layout.points ≡ points → IsInput points raw t layout.edges → new ≡ layouts ++ layout ∷ [] → AreDone points raw new (t + 1)
done_more points raw layouts new t layout D shared input is = subst (λ ls. AreDone points raw ls (t + 1)) (sym is) (record {
  count = length_push layouts layout ∙ ap (λ n. n + 1) D.count;
  inputs = λ k d l. input_at k d (split t k l);
  shared = λ k d l. shared_at k d (split t k l);
})
  where
    old : (k : ℕ) (d : Layout) → k < t → get_or layouts k d ≡ get_or (layouts ++ layout ∷ []) k d
    old k d l = sym (get_or_append_left layouts (layout ∷ []) d k (let c = D.count in omega arith))

    last : (k : ℕ) (d : Layout) → k ≡ t → layout ≡ get_or (layouts ++ layout ∷ []) k d
    last k d e = sym (get_or_push layouts layout d k (D.count ∙ sym e))

    input_at : (k : ℕ) (d : Layout) → (k < t) ⊎ (k ≡ t) → IsInput points raw k (get_or (layouts ++ layout ∷ []) k d).edges
    input_at k d (inl l) = subst (λ (u : Layout). IsInput points raw k u.edges) (old k d l) (D.inputs k d l)
    input_at k d (inr e) = subst (λ (u : Layout). IsInput points raw k u.edges) (last k d e) (subst (λ j. IsInput points raw j layout.edges) (sym e) input)

    shared_at : (k : ℕ) (d : Layout) → (k < t) ⊎ (k ≡ t) → (get_or (layouts ++ layout ∷ []) k d).points ≡ points
    shared_at k d (inl l) = subst (λ (u : Layout). u.points ≡ points) (old k d l) (D.shared k d l)
    shared_at k d (inr e) = subst (λ (u : Layout). u.points ≡ points) (last k d e) shared

-- ---- the instance
module _ (points : List Point) (raw : List (List RawPair)) (layouts : List Layout) (S : AreSound points raw) (D : AreDone points raw layouts (length raw)) where
  edges_at : (k : ℕ) (d : Layout) (e : List Edge) → k < length layouts → get_or (all_edges layouts) k e ≡ (get_or layouts k d).edges
  edges_at k d e l = get_or-map (λ (t : Layout). t.edges) layouts k d e l

  pub as_many : length (all_edges layouts) ≡ length raw
  as_many = length-map layouts (λ (t : Layout). t.edges) ∙ D.count

  pub inputs_of : (weights : List ℕ) → AreFewWeights (all_edges layouts) weights → AreInputs points layouts weights
  inputs_of weights W = record {
    weighed = W;
    problem = record {
      some_points = S.some_points;
      few_points = S.usable.few;
      some_input = (let a = S.some_input in let b = D.count in omega (arith, length-map layouts (λ (t : Layout). t.edges)));
      few_inputs = (let a = S.few_inputs in let b = D.count in omega (arith, length-map layouts (λ (t : Layout). t.edges)));
      in_reach = S.usable.in_reach;
      placed = S.placed;
      triangulated = triangulated;
    };
    shared = λ k t h. let l = slice_get_within layouts k t h in subst (λ (u : Layout). u.points ≡ points) (get_or_from_slice_get layouts k t t h) (D.shared k t (let c = D.count in omega arith));
  }
    where
      triangulated : (edges : List Edge) → Contains (all_edges layouts) edges → IsTriangulation points edges
      triangulated edges (k, l, h) =
          let m : k < length layouts = omega (arith, length-map layouts (λ (t : Layout). t.edges)) in
          subst (IsTriangulation points) (sym (edges_at k no_layout edges m) ∙ h) (D.inputs k no_layout (let c = D.count in omega arith)).triangulation

  in_input : (c : Bad) → rank_of c ≡ 9 → HoldsOfShape points raw c → input_of c < length raw
  in_input (BadVertex t p) r (q, (pairs, h, k), bad) = slice_get_within raw t pairs h
  in_input (Loop t p) r (q, (pairs, h, k), bad) = slice_get_within raw t pairs h
  in_input (Blocked t e q) r (es, (pairs, h, k), _, _, _) = slice_get_within raw t pairs h
  in_input (Crossing t e f) r (es, (pairs, h, k), _, _, _, _) = slice_get_within raw t pairs h
  in_input (LonePoint t p) r (es, (pairs, h, k), _, _) = slice_get_within raw t pairs h
  in_input (OpenSide t e) r (es, (pairs, h, k), _, _) = slice_get_within raw t pairs h
  in_input _ r h = absurd (omega arith)

  pub shaped : (b : Bad) → ¬ HoldsOfShape points raw b
  shaped b h = by_rank (ranked points raw b h)
    where
      by_rank : (rank_of b < 9) ⊎ (rank_of b ≡ 9) → ⊥
      by_rank (inl l) = S.clear.none b l h
      by_rank (inr r) = (D.inputs (input_of b) no_layout (in_input b r h)).faultless.none b r refl h

  zipped : (R : List RawPair → List Edge → Type 0) (xs : List (List RawPair)) (ys : List (List Edge)) → length xs ≡ length ys → ((k : ℕ) (x : List RawPair) (y : List Edge) → slice_get xs k ≡ Some x → slice_get ys k ≡ Some y → R x y) → AllZip R xs ys
  zipped R [] [] e h = tt
  zipped R [] (y ∷ ys) e h = absurd (omega arith)
  zipped R (x ∷ xs) [] e h = absurd (omega arith)
  zipped R (x ∷ xs) (y ∷ ys) e h = (h 0 x y refl refl, zipped R xs ys (omega arith) (λ k a b i j. h (suc k) a b i j))

  pub completed : AllZip (IsCompletedInput points) raw (all_edges layouts)
  completed = zipped (IsCompletedInput points) raw (all_edges layouts) (let c = D.count in omega (arith, length-map layouts (λ (t : Layout). t.edges))) at_place
    where
      at_place : (k : ℕ) (x : List RawPair) (y : List Edge) → slice_get raw k ≡ Some x → slice_get (all_edges layouts) k ≡ Some y → IsCompletedInput points x y
      at_place k x y h i =
          let l = slice_get_within raw k x h in
          let m : k < length layouts = (let c = D.count in omega arith) in
          subst (IsCompletedInput points x) (sym (edges_at k no_layout y m) ∙ get_or_from_slice_get (all_edges layouts) k y y i) ((D.inputs k no_layout l).completed x h)
