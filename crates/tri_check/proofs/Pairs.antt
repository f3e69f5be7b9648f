-- Pairs of an input as edges.
use Rattle.std.proofs.Common.{◌≡◌, ◌⊎◌, inl, inr, ℕ, zero, suc, ◌+◌, ◌<◌, min, max, ℤ, pos, negsuc, ◌≤ℤ◌, ◌<ℤ◌, unsigned_abs, List, [], ◌∷◌, ◌++◌, take, map, IsPermutation, length, get_or, slice_get, Some, Contains, refl, sym, ap, ap₂, ◌∙◌, subst, arith}
use Rattle.std.proofs.lemmas.Int.{ints}
use Rattle.std.proofs.lemmas.Option.{slice_get_within, get_or_from_slice_get}
use Rattle.std.proofs.lemmas.List.Elements.{Contains-push, Contains-push_cases, Contains-append_left}
use Rattle.std.proofs.lemmas.List.Sorted.{IsPermutation-sym, Contains-permutation}
use Rattle.geo_orient.specs.declared.Point.{Point}
use Rattle.edge_table.specs.declared.edge.Edge.{Edge}
use Rattle.edge_table.specs.Edges.{edge, IsAscending, AddsEdge}
use Rattle.tri_theory.specs.Inputs.{IsHullSegment}
use Rattle.tri_check.specs.declared.raw.RawPair.{RawPair}
use Rattle.tri_check.specs.Faults.{IsCompletedInput}
use Rattle.tri_check.specs.Stages.{AreHull, ArePairs, AreMembers, AreGathered, HasFirst, AreEdges, IsNone, IsLoop, pair_at, edge_at}
use Rattle.tri_check.proofs.Searches.{split}

pub gathered_begin : (points : List Point) (raw : List RawPair) (hull items : List Edge) → AreHull points hull → items ≡ hull → AreGathered points raw items 0
gathered_begin points raw hull items H e = subst (λ es. AreGathered points raw es 0) (sym e) (record {
  sound = λ f h. inr ((H.members f).0 h);
  listed = λ k h. absurd (omega arith);
  hull = λ f h. (H.members f).1 h;
})

pub gathered_more : (points : List Point) (raw : List RawPair) (old new : List Edge) (p : ℕ) (e : Edge) → AreGathered points raw old p → new ≡ old ++ e ∷ [] → e ≡ edge_at raw p → AreGathered points raw new (p + 1)
gathered_more points raw old new p e M more is = subst (λ es. AreGathered points raw es (p + 1)) (sym more) (record {
  sound = λ f h. sound f (Contains-push_cases old e f h);
  listed = λ k h. listed k (split p k h);
  hull = λ f h. Contains-append_left old (e ∷ []) f (M.hull f h);
})
  where
    older : (f : Edge) → ((k : ℕ) × (k < p) × (f ≡ edge_at raw k)) ⊎ IsHullSegment points f → ((k : ℕ) × (k < p + 1) × (f ≡ edge_at raw k)) ⊎ IsHullSegment points f
    older f (inl (k, l, i)) = inl (k, omega arith, i)
    older f (inr h) = inr h

    sound : (f : Edge) → Contains old f ⊎ (e ≡ f) → ((k : ℕ) × (k < p + 1) × (f ≡ edge_at raw k)) ⊎ IsHullSegment points f
    sound f (inl h) = older f (M.sound f h)
    sound f (inr i) = inl (p, omega arith, sym i ∙ is)

    listed : (k : ℕ) → (k < p) ⊎ (k ≡ p) → Contains (old ++ e ∷ []) (edge_at raw k)
    listed k (inl l) = Contains-append_left old (e ∷ []) (edge_at raw k) (M.listed k l)
    listed k (inr i) = subst (Contains (old ++ e ∷ [])) (is ∙ ap (edge_at raw) (sym i)) (Contains-push old e)

-- ---- a list as a set
pub first_begin : (items edges : List Edge) → edges ≡ [] → HasFirst items edges 0
first_begin items edges e = subst (λ es. HasFirst items es 0) (sym e) (record { ascending = λ i j d h k. absurd (omega (arith, k)); members = λ f. (λ h. h, λ h. h) })

take_next : (xs : List Edge) (i : ℕ) (d : Edge) → i < length xs → take (suc i) xs ≡ take i xs ++ get_or xs i d ∷ []
take_next [] i d l = absurd (omega (arith, l))
take_next (x ∷ xs) zero d l = refl
take_next (x ∷ xs) (suc i) d l = ap (λ ys. x ∷ ys) (take_next xs i d (omega (arith, l)))

take_plus : (xs : List Edge) (i : ℕ) (d : Edge) → i < length xs → take (i + 1) xs ≡ take i xs ++ get_or xs i d ∷ []
take_plus xs i d l = ap (λ k. take k xs) next ∙ take_next xs i d l
  where
    next : i + 1 ≡ suc i
    next = omega arith

pub taken : (xs : List Edge) (i : ℕ) (e : Edge) → slice_get xs i ≡ Some e → take (i + 1) xs ≡ take i xs ++ e ∷ []
taken xs i e h = take_plus xs i e (slice_get_within xs i e h) ∙ ap (λ x. take i xs ++ x ∷ []) (get_or_from_slice_get xs i e e h)

pub first_more : (items old new : List Edge) (i : ℕ) (e : Edge) → i < length items → HasFirst items old i → AddsEdge old new e → IsAscending new → e ≡ get_or items i e → HasFirst items new (i + 1)
first_more items old new i e l H adds up at = record { ascending = up; members = λ f. (λ h. to f ((adds f).0 h), λ h. (adds f).1 (from f h)) }
  where
    longer : take (i + 1) items ≡ take i items ++ e ∷ []
    longer = take_plus items i e l ∙ ap (λ x. take i items ++ x ∷ []) (sym at)

    to : (f : Edge) → Contains old f ⊎ (f ≡ e) → Contains (take (i + 1) items) f
    to f (inl h) = subst (λ ys. Contains ys f) (sym longer) (Contains-append_left (take i items) (e ∷ []) f ((H.members f).0 h))
    to f (inr k) = subst (λ ys. Contains ys f) (sym longer) (subst (Contains (take i items ++ e ∷ [])) (sym k) (Contains-push (take i items) e))

    from : (f : Edge) → Contains (take (i + 1) items) f → Contains old f ⊎ (f ≡ e)
    from f h = by_case (Contains-push_cases (take i items) e f (subst (λ ys. Contains ys f) longer h))
      where
        by_case : Contains (take i items) f ⊎ (e ≡ f) → Contains old f ⊎ (f ≡ e)
        by_case (inl k) = inl ((H.members f).1 k)
        by_case (inr k) = inr (sym k)

pub as_members : (points : List Point) (raw : List RawPair) (items sorted edges : List Edge) (p : ℕ) → AreGathered points raw items p → IsPermutation items sorted → HasFirst sorted edges (length sorted) → AreMembers points raw edges p
as_members points raw items sorted edges p G P H = record {
  ascending = H.ascending;
  sound = λ e h. G.sound e (Contains-permutation sorted items e (IsPermutation-sym items sorted P) (out e h));
  listed = λ k l. into (edge_at raw k) (Contains-permutation items sorted (edge_at raw k) P (G.listed k l));
  hull = λ e s. into e (Contains-permutation items sorted e P (G.hull e s));
}
  where
    all : (xs : List Edge) → take (length xs) xs ≡ xs
    all [] = refl
    all (x ∷ xs) = ap (λ ys. x ∷ ys) (all xs)

    out : (e : Edge) → Contains edges e → Contains sorted e
    out e h = subst (λ ys. Contains ys e) (all sorted) ((H.members e).0 h)

    into : (e : Edge) → Contains sorted e → Contains edges e
    into e h = (H.members e).1 (subst (λ ys. Contains ys e) (sym (all sorted)) h)

-- ---- the completed input
abbrev numbers : RawPair → ℕ × ℕ
numbers pair = (unsigned_abs pair.a, unsigned_abs pair.b)

natural : (z : ℤ) → pos 0 ≤ℤ z → z ≡ pos (unsigned_abs z)
natural (pos n) h = refl
natural (negsuc n) h = absurd (omega (arith, ints))

abbrev raw_of : ℕ × ℕ → RawPair
raw_of pair = record { a = pos pair.0; b = pos pair.1 }

same_pair : (pair : RawPair) → pos 0 ≤ℤ pair.a → pos 0 ≤ℤ pair.b → pair ≡ raw_of (numbers pair)
same_pair pair h k = ap₂ (λ x y. let p : RawPair = record { a = x; b = y } in p) (natural pair.a h) (natural pair.b k)

listed : (raw : List RawPair) → ((p : ℕ) → p < length raw → pos 0 ≤ℤ (pair_at raw p).a) → ((p : ℕ) → p < length raw → pos 0 ≤ℤ (pair_at raw p).b) → raw ≡ map raw_of (map numbers raw)
listed [] h k = refl
listed (r ∷ rs) h k = ap₂ ◌∷◌ (same_pair r (h 0 (omega arith)) (k 0 (omega arith))) (listed rs (λ p l. h (suc p) (omega arith)) (λ p l. k (suc p) (omega arith)))

at_map : (raw : List RawPair) (k : ℕ) (d : ℕ × ℕ) → k < length raw → get_or (map numbers raw) k d ≡ numbers (pair_at raw k)
at_map [] k d l = absurd (omega arith)
at_map (r ∷ rs) zero d l = refl
at_map (r ∷ rs) (suc k) d l = at_map rs k d (omega arith)

as_long : (raw : List RawPair) → length (map numbers raw) ≡ length raw
as_long [] = refl
as_long (r ∷ rs) = ap suc (as_long rs)

pub completed : (points : List Point) (raw : List RawPair) (edges : List Edge) (p : ℕ) → ArePairs points raw → p ≡ length raw → AreMembers points raw edges p → IsCompletedInput points raw edges
completed points raw edges p P all M = (map numbers raw, listed raw (λ k l. (P.first k l).0) (λ k l. (P.second k l).0), record { ascending = M.ascending; members = λ e. (λ h. to e (M.sound e h), λ h. from e h) })
  where
    to : (e : Edge) → ((k : ℕ) × (k < p) × (e ≡ edge_at raw k)) ⊎ IsHullSegment points e → ((a b : ℕ) × Contains (map numbers raw) (a, b) × (e ≡ edge a b)) ⊎ IsHullSegment points e
    to e (inl (k, l, i)) = inl (unsigned_abs (pair_at raw k).a, unsigned_abs (pair_at raw k).b, (k, (let h = as_long raw in omega arith), at_map raw k (numbers (pair_at raw k)) (omega arith)), i)
    to e (inr h) = inr h

    here : (k a b : ℕ) → k < length raw → get_or (map numbers raw) k (a, b) ≡ (a, b) → edge a b ≡ edge_at raw k
    here k a b l h = ap (λ (q : ℕ × ℕ). edge q.0 q.1) (sym h ∙ at_map raw k (a, b) l)

    from : (e : Edge) → ((a b : ℕ) × Contains (map numbers raw) (a, b) × (e ≡ edge a b)) ⊎ IsHullSegment points e → Contains edges e
    from e (inl (a, b, (k, l, h), i)) =
        let m : k < length raw = (let q = as_long raw in omega arith) in
        subst (Contains edges) (sym (i ∙ here k a b m h)) (M.listed k (omega arith))
    from e (inr h) = M.hull e h

pub edges_of_points : (points : List Point) (raw : List RawPair) (edges : List Edge) (p : ℕ) → ArePairs points raw → IsNone (length raw) (IsLoop raw) → p ≡ length raw → AreMembers points raw edges p → AreEdges points edges
edges_of_points points raw edges p P apart all M = record { low_first = λ e h. low e (M.sound e h); in_range = λ e h. high e (M.sound e h) }
  where
    below : (z : ℤ) (n : ℕ) → pos 0 ≤ℤ z → z <ℤ pos n → unsigned_abs z < n
    below z n h k = omega (arith, ints)

    differ : (x y : ℤ) → pos 0 ≤ℤ x → pos 0 ≤ℤ y → ¬ (x ≡ y) → min (unsigned_abs x) (unsigned_abs y) < max (unsigned_abs x) (unsigned_abs y)
    differ x y h k n = apart_by (unsigned_abs x) (unsigned_abs y) (λ e. n (natural x h ∙ ap pos e ∙ sym (natural y k)))
      where
        apart_by : (a b : ℕ) → ¬ (a ≡ b) → min a b < max a b
        apart_by a b n = omega arith

    low : (e : Edge) → ((k : ℕ) × (k < p) × (e ≡ edge_at raw k)) ⊎ IsHullSegment points e → e.0 < e.1
    low e (inl (k, l, i)) =
        let m : k < length raw = omega arith in
        subst (λ (f : Edge). f.0 < f.1) (sym i) (differ (pair_at raw k).a (pair_at raw k).b (P.first k m).0 (P.second k m).0 (apart k m))
    low e (inr h) = h.0.low_first

    higher : (a b n : ℕ) → a < n → b < n → max a b < n
    higher a b n h k = omega arith

    high : (e : Edge) → ((k : ℕ) × (k < p) × (e ≡ edge_at raw k)) ⊎ IsHullSegment points e → e.1 < length points
    high e (inl (k, l, i)) =
        let m : k < length raw = omega arith in
        subst (λ (f : Edge). f.1 < length points) (sym i) (higher (unsigned_abs (pair_at raw k).a) (unsigned_abs (pair_at raw k).b) (length points) (below (pair_at raw k).a (length points) (P.first k m).0 (P.first k m).1) (below (pair_at raw k).b (length points) (P.second k m).0 (P.second k m).1))
    high e (inr h) = h.0.in_range
