-- From three schedules to one triangulation to a model of the star formula: the models of the three legs, piece by piece.
use Rattle.std.proofs.Common.{◌≡◌, ◌⊎◌, inl, inr, ℕ, ◌+◌, ◌-◌, ◌*◌, ◌<◌, ◌≤◌, Bool, false, cond, ltb, List, [], ◌∷◌, ◌++◌, length, get_or, Contains, sym, ap, ◌∙◌, subst, arith}
use Rattle.std.specs.List.{flat_map, position_or_len, range_with_len}
use native.Mathlib.Decide.{ℕ_discrete}
use Rattle.std.proofs.lemmas.Bool.{lt-ltb, le-ltb}
use Rattle.std.proofs.lemmas.List.Elements.{All-append, All-contains, Contains-get_or}
use Rattle.geo_orient.specs.declared.Point.{Point}
use Rattle.tri_theory.specs.Points.{ArePlaced}
use Rattle.edge_table.specs.declared.edge.Edge.{Edge}
use Rattle.edge_table.specs.Edges.{IsBefore, IsAscending, is_edge, is_member}
use Rattle.formula_law.specs.Frames.{Pair, Frame, IsFrame}
use Rattle.log_law.specs.declared.Lit.{Lit}
use Rattle.log_law.specs.Clauses.{Clause, IsSatisfied, IsModel}
use Rattle.formula_law.specs.Formula.{literal, there, layer_clauses, crossing_clauses, formula, variable_count}
use Rattle.star_law.specs.Legs.{AreLegs, Leg, Meet, Placed, all_rounds, placed}
use Rattle.star_law.proofs.Renamed.{in_star, renamed, renamed_changes, renamed_early, renamed_first, renamed_flips, renamed_star}
use Rattle.edge_table.proofs.Ascending.{not_before_itself}
use Rattle.formula_law.proofs.Clauses.{all_of, any_of, any_found, in_none, in_cases, in_map, in_flat_map, flat_mapped, ranged, in_range}
use Rattle.formula_law.proofs.EdgeTests.{edge_place}
use Rattle.formula_law.proofs.Traces.{group_4, group_5, in_1, in_3, in_4, in_5, model_trace}
use Rattle.formula_law.proofs.FormulaLaws.{within_model}
use Rattle.formula_law.proofs.FormulaVariables.{formula_variables}
use Rattle.star_law.proofs.StarNumbers.{Region, Early, Hub, Late, region, hub_there}
use Rattle.star_law.proofs.StarModels.{renamed_to, model_among, firsts, hub, earlies, flips, changes, each_leg, off_one}

-- ---- an assignment in pieces: each has a length, and values at the numbers from 1 to it
abbrev Piece : Type 0
Piece = ℕ × (ℕ → Bool)

abbrev lengths : List Piece → ℕ
lengths [] = 0
lengths (p ∷ ps) = p.0 + lengths ps

abbrev pieces : List Piece → ℕ → Bool
pieces [] n = false
pieces (p ∷ ps) n = cond (ltb n (p.0 + 1)) (p.1 n) (pieces ps (n - p.0))

at : (before : List Piece) (p : Piece) (rest : List Piece) (n m : ℕ) → 1 ≤ n → n ≤ p.0 → m ≡ lengths before + n → pieces (before ++ p ∷ rest) m ≡ p.1 n
at [] p rest n m l h e =
    let same : m ≡ n = omega (arith, e) in
    rw (lt-ltb m (p.0 + 1) (omega (arith, e))) (ap p.1 same)
at (b ∷ bs) p rest n m l h e = rw (le-ltb m (b.0 + 1) (omega (arith, e))) (at bs p rest n (m - b.0) l h (omega (arith, e)))

-- ---- a model depends on the variables that stand in the clauses
model_same : (t u : ℕ → Bool) (cs : List Clause) → IsModel t cs → ((c : Clause) (l : Lit) → Contains cs c → Contains c l → u l.var ≡ t l.var) → IsModel u cs
model_same t u cs m same = all_of (IsSatisfied u) cs (λ c h. by_found c h (any_found (λ (l : Lit). t l.var ≡ l.on) c (All-contains (IsSatisfied t) cs c m h)))
  where
    by_found : (c : Clause) → Contains cs c → (l : Lit) × Contains c l × (t l.var ≡ l.on) → IsSatisfied u c
    by_found c h (l, i, j) = any_of (λ (l : Lit). u l.var ≡ l.on) l c i (same c l h i ∙ j)

-- ---- an edge stands at its place
place_at : (es : List Edge) → IsAscending es → (i : ℕ) (d : Edge) → i < length es → position_or_len (is_edge (get_or es i d)) es ≡ i
place_at es up i d l = by_place (position_or_len (is_edge (get_or es i d)) es) (edge_place es (get_or es i d) d (Contains-get_or es i d l))
  where
    by_place : (p : ℕ) → (p < length es) × (get_or es p d ≡ get_or es i d) → p ≡ i
    by_place p (lt, same) = by_test (ℕ_discrete p i)
      where
        order : p < i ⊎ i < p → ⊥
        order (inl h) = not_before_itself (get_or es i d) (subst (λ e. IsBefore e (get_or es i d)) same (up p i d h l))
        order (inr h) = not_before_itself (get_or es i d) (subst (λ e. IsBefore (get_or es i d) e) same (up i p d h lt))

        either : ¬ (p ≡ i) → (p < i) ⊎ (i < p)
        either n = grind arith

        by_test : Dec (p ≡ i) → p ≡ i
        by_test (yes e) = e
        by_test (no n) = absurd (order (either n))

module _ (points : List Point) (F : Frame) (I : IsFrame points F) (H : List Edge) where
  abbrev s : ℕ
  s = length F.segments

  abbrev w : ℕ
  w = length F.flips

  abbrev hub_at : ℕ → Bool
  hub_at n = is_member H (get_or F.segments (n - 1) (0, 0))

  -- the last layer of a leg's model is the hub
  last_at : (A : List Edge) (k : ℕ) (t : ℕ → Bool) → IsModel t (formula F A H k) → (v : ℕ) → k * s < v → v ≤ (k + 1) * s → t v ≡ hub_at (v - k * s)
  last_at A k t m v l h = ap t named ∙ (model_trace F A H k t m).last e (Contains-get_or F.segments i (0, 0) small)
    where
      i : ℕ
      i = v - k * s - 1

      small : i < s
      small = omega arith

      e : Edge
      e = get_or F.segments i (0, 0)

      named : v ≡ there F k e
      named = let p = place_at F.segments I.segments_ascend i (0, 0) small in omega (arith, p)

  module _ (x y z : Leg) (tx ty tz : ℕ → Bool) (mx : IsModel tx (formula F x.from H x.rounds)) (my : IsModel ty (formula F y.from H y.rounds)) (mz : IsModel tz (formula F z.from H z.rounds)) where
    abbrev all : ℕ
    all = all_rounds x y z

    abbrev late : ℕ → (ℕ → Bool) → Piece
    late k t = (k * w, λ n. t ((k + 1) * s + n))

    abbrev p0 : Piece
    p0 = (s, hub_at)

    abbrev p1 : Piece
    p1 = (x.rounds * s, tx)

    abbrev p2 : Piece
    p2 = (y.rounds * s, ty)

    abbrev p3 : Piece
    p3 = (z.rounds * s, tz)

    abbrev p4 : Piece
    p4 = late x.rounds tx

    abbrev p5 : Piece
    p5 = late y.rounds ty

    abbrev p6 : Piece
    p6 = late z.rounds tz

    abbrev pub truth : ℕ → Bool
    truth = pieces (p0 ∷ p1 ∷ p2 ∷ p3 ∷ p4 ∷ p5 ∷ p6 ∷ [])

    in_hub : (leg : Placed) (t : ℕ → Bool) → IsModel t (formula F leg.0.from H leg.0.rounds) → (v : ℕ) → leg.0.rounds * s < v → v ≤ (leg.0.rounds + 1) * s → in_star F all leg v ≡ v - leg.0.rounds * s → truth (in_star F all leg v) ≡ t v
    in_hub leg t m v l h e = at [] p0 (p1 ∷ p2 ∷ p3 ∷ p4 ∷ p5 ∷ p6 ∷ []) (v - leg.0.rounds * s) (in_star F all leg v) (omega arith) (omega arith) (omega (arith, e)) ∙ sym (last_at leg.0.from leg.0.rounds t m v l h)

    back : (k : ℕ) (t : ℕ → Bool) (v : ℕ) → (k + 1) * s < v → t ((k + 1) * s + (v - (k + 1) * s)) ≡ t v
    back k t v l = let same : (k + 1) * s + (v - (k + 1) * s) ≡ v = omega arith in ap t same

    says_x : (v : ℕ) → 1 ≤ v → v ≤ variable_count F x.rounds → truth (in_star F all (x, 0) v) ≡ tx v
    says_x v l h = by_region (region F all (x, 0) v)
      where
        by_region : Region F all (x, 0) v → truth (in_star F all (x, 0) v) ≡ tx v
        by_region (Early a e) = at (p0 ∷ []) p1 (p2 ∷ p3 ∷ p4 ∷ p5 ∷ p6 ∷ []) v (in_star F all (x, 0) v) l a (omega (arith, e))
        by_region (Hub a b e) = in_hub (x, 0) tx mx v a b e
        by_region (Late a e) = at (p0 ∷ p1 ∷ p2 ∷ p3 ∷ []) p4 (p5 ∷ p6 ∷ []) (v - (x.rounds + 1) * s) (in_star F all (x, 0) v) (omega arith) (omega arith) (omega (arith, e)) ∙ back x.rounds tx v a

    says_y : (v : ℕ) → 1 ≤ v → v ≤ variable_count F y.rounds → truth (in_star F all (y, x.rounds) v) ≡ ty v
    says_y v l h = by_region (region F all (y, x.rounds) v)
      where
        by_region : Region F all (y, x.rounds) v → truth (in_star F all (y, x.rounds) v) ≡ ty v
        by_region (Early a e) = at (p0 ∷ p1 ∷ []) p2 (p3 ∷ p4 ∷ p5 ∷ p6 ∷ []) v (in_star F all (y, x.rounds) v) l a (omega (arith, e))
        by_region (Hub a b e) = in_hub (y, x.rounds) ty my v a b e
        by_region (Late a e) = at (p0 ∷ p1 ∷ p2 ∷ p3 ∷ p4 ∷ []) p5 (p6 ∷ []) (v - (y.rounds + 1) * s) (in_star F all (y, x.rounds) v) (omega arith) (omega arith) (omega (arith, e)) ∙ back y.rounds ty v a

    abbrev third : Placed
    third = (z, x.rounds + y.rounds)

    says_z : (v : ℕ) → 1 ≤ v → v ≤ variable_count F z.rounds → truth (in_star F all third v) ≡ tz v
    says_z v l h = by_region (region F all third v)
      where
        by_region : Region F all third v → truth (in_star F all third v) ≡ tz v
        by_region (Early a e) = at (p0 ∷ p1 ∷ p2 ∷ []) p3 (p4 ∷ p5 ∷ p6 ∷ []) v (in_star F all third v) l a (omega (arith, e))
        by_region (Hub a b e) = in_hub third tz mz v a b e
        by_region (Late a e) = at (p0 ∷ p1 ∷ p2 ∷ p3 ∷ p4 ∷ p5 ∷ []) p6 [] (v - (z.rounds + 1) * s) (in_star F all third v) (omega arith) (omega arith) (omega (arith, e)) ∙ back z.rounds tz v a

    abbrev own : Placed → ℕ → Bool
    own leg v = truth (in_star F all leg v)

    abbrev Own : Placed → Type 0
    Own leg = IsModel (own leg) (formula F leg.0.from H leg.0.rounds)

    own_of : (leg : Placed) (t : ℕ → Bool) → IsModel t (formula F leg.0.from H leg.0.rounds) → ((v : ℕ) → 1 ≤ v → v ≤ variable_count F leg.0.rounds → own leg v ≡ t v) → Own leg
    own_of leg t m says = model_same t (own leg) (formula F leg.0.from H leg.0.rounds) m (λ c l h i. let r = formula_variables points F I leg.0.from H leg.0.rounds c l h i in says l.var r.0 r.1)

    own_model : (leg : Placed) → Contains (placed x y z) leg → Own leg
    own_model leg h = by_1 (in_cases leg (x, 0) ((y, x.rounds) ∷ third ∷ []) h)
      where
        by_3 : (third ≡ leg) ⊎ Contains [] leg → Own leg
        by_3 (inl e) = subst Own e (own_of third tz mz says_z)
        by_3 (inr n) = absurd (in_none leg n)

        by_2 : (let l : Placed = (y, x.rounds) in l ≡ leg) ⊎ Contains (third ∷ []) leg → Own leg
        by_2 (inl e) = subst Own e (own_of (y, x.rounds) ty my says_y)
        by_2 (inr n) = by_3 (in_cases leg third [] n)

        by_1 : (let l : Placed = (x, 0) in l ≡ leg) ⊎ Contains ((y, x.rounds) ∷ third ∷ []) leg → Own leg
        by_1 (inl e) = subst Own e (own_of (x, 0) tx mx says_x)
        by_1 (inr n) = by_2 (in_cases leg (y, x.rounds) (third ∷ []) n)

    among : (leg : Placed) → Contains (placed x y z) leg → (ds : List Clause) → ((c : Clause) → Contains ds c → Contains (formula F leg.0.from H leg.0.rounds) c) → IsModel truth (renamed (in_star F all leg) ds)
    among leg h ds i = renamed_to (in_star F all leg) truth ds (model_among (own leg) (formula F leg.0.from H leg.0.rounds) ds (own_model leg h) i)

    early_in : (k : ℕ) (c : Clause) → Contains (flat_map (crossing_clauses F (there F)) (range_with_len 0 k)) c → Contains (flat_map (crossing_clauses F (there F)) (range_with_len 0 (k + 1))) c
    early_in k c h = by_layer (in_flat_map (crossing_clauses F (there F)) (range_with_len 0 k) c h)
      where
        by_layer : (t : ℕ) × Contains (range_with_len 0 k) t × Contains (crossing_clauses F (there F) t) c → Contains (flat_map (crossing_clauses F (there F)) (range_with_len 0 (k + 1))) c
        by_layer (t, i, j) = let r = in_range 0 k t i in flat_mapped (crossing_clauses F (there F)) (range_with_len 0 (k + 1)) t c (ranged 0 (k + 1) t (omega arith) (omega arith)) j

    hub_holds : IsModel truth (crossing_clauses F (there F) 0)
    hub_holds = all_of (IsSatisfied truth) (crossing_clauses F (there F) 0) (λ c h. by_pair c (in_map pair F.crossings c h))
      where
        pair : Pair → Clause
        pair g = literal (there F 0 g.0) false ∷ literal (there F 0 g.1) false ∷ []

        by_pair : (c : Clause) → (g : Pair) × Contains F.crossings g × (pair g ≡ c) → IsSatisfied truth c
        by_pair c (g, h, i) = subst (IsSatisfied truth) i (off_one truth (there F 0 g.0) (there F 0 g.1) (here ((model_trace F x.from H x.rounds (own (x, 0)) (own_of (x, 0) tx mx says_x)).planar x.rounds g (omega arith) h)))
          where
            ends : Contains F.segments g.0 × Contains F.segments g.1
            ends = let r = (I.crossings g.0 g.1).0 h in ((I.segments g.0).1 r.0, (I.segments g.1).1 r.1)

            here : (own (x, 0) (there F x.rounds g.0) ≡ false) ⊎ (own (x, 0) (there F x.rounds g.1) ≡ false) → (truth (there F 0 g.0) ≡ false) ⊎ (truth (there F 0 g.1) ≡ false)
            here (inl e) = inl (ap truth (sym (hub_there F all (x, 0) g.0 ends.0)) ∙ e)
            here (inr e) = inr (ap truth (sym (hub_there F all (x, 0) g.1 ends.1)) ∙ e)

    pub star_model : IsModel truth (renamed_star F x y z)
    star_model =
        All-append (IsSatisfied truth) (firsts F x y z ++ hub F x y z ++ earlies F x y z ++ flips F x y z) (changes F x y z)
        (All-append (IsSatisfied truth) (firsts F x y z ++ hub F x y z ++ earlies F x y z) (flips F x y z)
        (All-append (IsSatisfied truth) (firsts F x y z ++ hub F x y z) (earlies F x y z)
        (All-append (IsSatisfied truth) (firsts F x y z) (hub F x y z)
        (each_leg F x y z truth (renamed_first F all) (λ leg h. among leg h (layer_clauses F (there F) 0 leg.0.from) (in_1 F leg.0.from H leg.0.rounds)))
        hub_holds)
        (each_leg F x y z truth (renamed_early F all) (λ leg h. among leg h (flat_map (crossing_clauses F (there F)) (range_with_len 0 leg.0.rounds)) (λ c i. in_3 F leg.0.from H leg.0.rounds c (early_in leg.0.rounds c i)))))
        (each_leg F x y z truth (renamed_flips F all) (λ leg h. among leg h (group_4 F leg.0.from H leg.0.rounds) (in_4 F leg.0.from H leg.0.rounds))))
        (each_leg F x y z truth (renamed_changes F all) (λ leg h. among leg h (group_5 F leg.0.from H leg.0.rounds) (in_5 F leg.0.from H leg.0.rounds)))

pub meets_model : (points : List Point) → ArePlaced points → (F : Frame) → IsFrame points F → (x y z : Leg) → AreLegs points x y z → Meet points x y z → (truth : ℕ → Bool) × IsModel truth (renamed_star F x y z)
meets_model points P F I x y z L (H, N, wx, wy, wz) =
    let mx = within_model points P F I x.from H x.rounds L.first N wx in
    let my = within_model points P F I y.from H y.rounds L.second N wy in
    let mz = within_model points P F I z.from H z.rounds L.third N wz in
    (truth points F I H x y z mx.0 my.0 mz.0 mx.1 my.1 mz.1, star_model points F I H x y z mx.0 my.0 mz.0 mx.1 my.1 mz.1)
