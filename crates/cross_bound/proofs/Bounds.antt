-- The bound of two triangulations, from the best edge of both.
use Rattle.std.proofs.Common.{◌≡◌, ◌⊎◌, inl, inr, ℕ, zero, suc, ◌<◌, List, [], ◌∷◌, ◌++◌, map, Contains, slice_get, Option, None, Some, refl, sym, ap, ◌∙◌, arith}
use Rattle.std.proofs.lemmas.List.Elements.{Contains-append_cases}
use Rattle.std.proofs.lemmas.Option.{slice_get_within, get_or_from_slice_get}
use Rattle.geo_orient.specs.declared.Point.{Point}
use Rattle.edge_table.specs.declared.edge.Edge.{Edge}
use Rattle.tri_theory.specs.Points.{ArePlaced}
use Rattle.tri_theory.specs.Triangulations.{IsTriangulation}
use Rattle.tri_theory.specs.Crossings.{crossings}
use Rattle.tri_theory.specs.Rounds.{Within}
use Rattle.tri_check.specs.Layouts.{Layout}
use Rattle.crossing_law.specs.Digits.{digits}
use Rattle.crossing_law.proofs.Proved.{crossings_keep_apart}
use Rattle.cross_bound.specs.declared.best.Side.{Side}
use Rattle.cross_bound.specs.declared.best.Side.TheVariants.{First, Second}
use Rattle.cross_bound.specs.declared.best.Best.{Best}
use Rattle.cross_bound.specs.Best.{IsBest}
use Rattle.cross_bound.specs.Bounds.{edges_of_both, crossed_by_other}

-- two lists of which no edge can be tried are equal
pub none_to_try : (a b : List Edge) → edges_of_both a b ≡ [] → a ≡ b
none_to_try [] [] e = refl
none_to_try [] (y ∷ b) e = cc
none_to_try (x ∷ a) b e = cc

first_or_later : {X : Type 0} (x y : X) (xs : List X) → Contains (x ∷ xs) y → (x ≡ y) ⊎ Contains xs y
first_or_later x y xs (zero, l, h) = inl h
first_or_later x y xs (suc k, l, h) = inr (k, omega arith, h)

-- the side and the edge of what is marked with a side
marked : (s t : Side) (e : Edge) (es : List Edge) → Contains {X = Side × Edge} (map (λ e. (s, e)) es) (t, e) → (s ≡ t) × Contains es e
marked s t e [] (k, l, h) = absurd (omega arith)
marked s t e (f ∷ es) h = by_cases (first_or_later {X = Side × Edge} (s, f) (t, e) (map (λ e. (s, e)) es) h) (λ k. marked s t e es k)
  where
    by_cases : (let p : Side × Edge = (s, f) in let q : Side × Edge = (t, e) in p ≡ q) ⊎ Contains {X = Side × Edge} (map (λ e. (s, e)) es) (t, e) → (Contains {X = Side × Edge} (map (λ e. (s, e)) es) (t, e) → (s ≡ t) × Contains es e) → (s ≡ t) × Contains (f ∷ es) e
    by_cases (inl i) _ = (ap (λ (p : Side × Edge). p.0) i, (0, omega arith, ap (λ (p : Side × Edge). p.1) i))
    by_cases (inr k) again = let m = again k in (m.0, later m.1)
      where
        later : Contains es e → Contains (f ∷ es) e
        later (k, l, h) = (suc k, omega arith, h)

first_in : (a b : List Edge) (e : Edge) → Contains {X = Side × Edge} (edges_of_both a b) (First, e) → Contains a e
first_in a b e h = by_cases (Contains-append_cases {X = Side × Edge} (map (λ e. (First, e)) a) (map (λ e. (Second, e)) b) (First, e) h)
  where
    by_cases : Contains {X = Side × Edge} (map (λ e. (First, e)) a) (First, e) ⊎ Contains {X = Side × Edge} (map (λ e. (Second, e)) b) (First, e) → Contains a e
    by_cases (inl k) = (marked First First e a k).1
    by_cases (inr k) = let m = (marked Second First e b k).0 in absurd (cc)

second_in : (a b : List Edge) (e : Edge) → Contains {X = Side × Edge} (edges_of_both a b) (Second, e) → Contains b e
second_in a b e h = by_cases (Contains-append_cases {X = Side × Edge} (map (λ e. (First, e)) a) (map (λ e. (Second, e)) b) (Second, e) h)
  where
    by_cases : Contains {X = Side × Edge} (map (λ e. (First, e)) a) (Second, e) ⊎ Contains {X = Side × Edge} (map (λ e. (Second, e)) b) (Second, e) → Contains b e
    by_cases (inl k) = let m = (marked First Second e a k).0 in absurd (cc)
    by_cases (inr k) = (marked Second Second e b k).1

-- an edge of one that members of the other cross keeps the two apart
pub keeps_apart : (points : List Point) (a b : List Edge) (from : Side) (e : Edge) (k lower : ℕ) → ArePlaced points → IsTriangulation points a → IsTriangulation points b → Contains {X = Side × Edge} (edges_of_both a b) (from, e) → lower ≡ digits (crossed_by_other points a b (from, e)) → k < lower → (¬ Within points a b k) × (¬ Within points b a k)
keeps_apart points a b First e k lower P I J h m l =
    let apart = crossings_keep_apart points b a e k P J I (first_in a b e h) (omega arith) in
    (apart.1, apart.0)
keeps_apart points a b Second e k lower P I J h m l = crossings_keep_apart points a b e k P I J (second_in a b e h) (omega arith)

pub found_in : {X : Type 0} (xs : List X) (k : ℕ) (x : X) → slice_get xs k ≡ Some x → Contains xs x
found_in xs k x h = (k, slice_get_within xs k x h, get_or_from_slice_get xs k x x h)

-- the edges of the one are tried, and then those of the other
pub best_of_both : (a b first second : Layout) (r s : Option Best) → a.points ≡ b.points → first ≡ a → second ≡ b
    → ((f : Side × Edge → ℕ) → ((e : Edge) → f (First, e) ≡ crossings second.points second.edges e) → (xs : List (Side × Edge)) → IsBest f xs None → IsBest f (xs ++ map (λ e. (First, e)) a.edges) r)
    → ((f : Side × Edge → ℕ) → ((e : Edge) → f (Second, e) ≡ crossings first.points first.edges e) → (xs : List (Side × Edge)) → IsBest f xs r → IsBest f (xs ++ map (λ e. (Second, e)) b.edges) s)
    → IsBest (crossed_by_other a.points a.edges b.edges) (edges_of_both a.edges b.edges) s
best_of_both a b first second r s same i j inner outer =
    outer (crossed_by_other a.points a.edges b.edges) (λ e. ap (λ (l : Layout). crossings l.points l.edges e) (sym i)) (map (λ e. (First, e)) a.edges)
    (inner (crossed_by_other a.points a.edges b.edges) (λ e. ap (λ ps. crossings ps b.edges e) same ∙ ap (λ (l : Layout). crossings l.points l.edges e) (sym j)) [] refl)
