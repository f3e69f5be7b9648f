-- The lists that are found are those of the frame.
use Rattle.std.proofs.Common.{◌≡◌, inl, inr, ◌↔◌, ℕ, ◌<◌, ◌≤◌, List, length, get_or, map, Contains, sym, ap, ◌∙◌, subst, subst₂, arith}
use Rattle.std.specs.List.{All}
use Rattle.std.proofs.lemmas.List.{get_or-map, get_or_default, length-map}
use Rattle.std.proofs.lemmas.List.Elements.{Contains-get_or}
use native.Mathlib.Decide.{dec_lt}
use Rattle.geo_orient.specs.declared.Point.{Point}
use Rattle.edge_table.specs.declared.edge.Edge.{Edge}
use Rattle.edge_table.specs.Edges.{IsBefore, IsAscending}
use Rattle.edge_table.proofs.Ascending.{before_joins, not_before_itself}
use Rattle.tri_theory.specs.Triangulations.{IsSegment, Crosses}
use Rattle.formula_law.specs.Frames.{Pair, ArePairsAscending, IsPairBefore, MayFlip, IsFrame}
use Rattle.formula_law.proofs.Clauses.{all_of, mapped, in_map}
use Rattle.formula_law.proofs.EdgeTests.{pair_of}
use Rattle.formula_parts.specs.Lists.{Link, no_edge, edge_at, linked, frame_by, IsLinkBelow, AreSegments, AreLists}
use Rattle.formula_parts.specs.Found.{link, AreFound, IsCrossing, IsSwap}
use Rattle.formula_parts.proofs.Found.{found_all}

pub all_found : (points : List Point) (segments : List Edge) → AreFound (IsSegment points) 64 segments (length points) 0 → length points ≤ 64 → AreSegments points segments
all_found points segments F few = record {
  ascending = F.ascending;
  members = λ e. found_all (IsSegment points) 64 segments (length points) (λ g s. below s.low_first s.in_range) F e;
  few = let l = F.few in omega arith;
}
  where
    below : {a b n : ℕ} → a < b → b < n → a < n
    below h k = omega arith

pub pairs_ascend : (segments : List Edge) (found : List Link) → IsAscending segments → IsAscending found → All (IsLinkBelow (length segments)) found → ArePairsAscending (map (linked segments) found)
pairs_ascend segments found up vp within i j d h k =
    let l = length-map found (linked segments) in
    subst₂ IsPairBefore (sym (get_or-map (linked segments) found i no_edge d (omega arith))) (sym (get_or-map (linked segments) found j no_edge d (omega arith)))
    (later (get_or found i no_edge) (get_or found j no_edge) (within j no_edge (omega arith)) (vp i j no_edge h (omega arith)))
  where
    later : (g f : Link) → IsLinkBelow (length segments) f → IsBefore g f → IsPairBefore (linked segments g) (linked segments f)
    later g f b (inl h) = inl (up g.0 f.0 no_edge h b.0)
    later g f b (inr (e, h)) = inr (ap (edge_at segments) e, up g.1 f.1 no_edge h b.1)

-- what a place was found to hold
pub read_edge : (segments : List Edge) (n : ℕ) (e : Edge) → n < length segments → e ≡ get_or segments n e → edge_at segments n ≡ e
read_edge segments n e h is = get_or_default segments n no_edge e h ∙ sym is

module _ (points : List Point) (segments : List Edge) (S : AreSegments points segments) where
  pub segment_at : (n : ℕ) → n < length segments → IsSegment points (edge_at segments n)
  segment_at n h = (S.members (edge_at segments n)).0 (Contains-get_or segments n no_edge h)

  pub read_segment : (n : ℕ) (e : Edge) → n < length segments → e ≡ get_or segments n e → IsSegment points e
  read_segment n e h is = subst (IsSegment points) (read_edge segments n e h is) (segment_at n h)

  -- the number of a segment
  numbered : (e : Edge) → IsSegment points e → (n : ℕ) × (n < length segments) × (edge_at segments n ≡ e)
  numbered e s = by_place ((S.members e).1 s)
    where
      by_place : Contains segments e → (n : ℕ) × (n < length segments) × (edge_at segments n ≡ e)
      by_place (k, l, h) = (k, l, get_or_default segments k no_edge e l ∙ h)

  earlier : (i j : ℕ) → i < length segments → j < length segments → IsBefore (edge_at segments i) (edge_at segments j) → i < j
  earlier i j hi hj b = by_tests (dec_lt i j) (dec_lt j i)
    where
      by_tests : Dec (i < j) → Dec (j < i) → i < j
      by_tests (yes l) _ = l
      by_tests (no n) (yes l) = absurd (not_before_itself (edge_at segments i) (before_joins (edge_at segments i) (edge_at segments j) (edge_at segments i) b (S.ascending j i no_edge l hi)))
      by_tests (no n) (no m) = let e : j ≡ i = omega arith in absurd (not_before_itself (edge_at segments i) (subst (λ k. IsBefore (edge_at segments i) (edge_at segments k)) e b))

  module _ (crossings flips : List Link) (C : AreFound (IsCrossing points segments) 4096 crossings (length segments) 0) (W : AreFound (IsSwap points segments) 4096 flips (length segments) 0) where
    crossing_is : (g : Link) → Contains crossings g ↔ IsCrossing points segments g
    crossing_is = found_all (IsCrossing points segments) 4096 crossings (length segments) (λ g p. below p.0 p.1) C
      where
        below : {a b n : ℕ} → a < b → b < n → a < n
        below h k = omega arith

    flip_is : (g : Link) → Contains flips g ↔ IsSwap points segments g
    flip_is = found_all (IsSwap points segments) 4096 flips (length segments) (λ g p. p.0) W

    crossings_in : All (IsLinkBelow (length segments)) crossings
    crossings_in = all_of (IsLinkBelow (length segments)) crossings (λ g h. let p = (crossing_is g).0 h in let a = p.0 in let b = p.1 in (omega arith, p.1))

    flips_in : All (IsLinkBelow (length segments)) flips
    flips_in = all_of (IsLinkBelow (length segments)) flips (λ g h. let p = (flip_is g).0 h in (p.0, p.1))

    pub lists_are : AreLists segments crossings flips
    lists_are = record {
      segments_ascend = S.ascending;
      crossings_in = crossings_in;
      flips_in = flips_in;
      flips_ascend = W.ascending;
      few_segments = S.few;
      few_crossings = let l = C.few in let m = S.few in omega arith;
      few_flips = let l = W.few in let m = S.few in omega arith;
    }

    pub frame_is : IsFrame points (frame_by segments crossings flips)
    frame_is = record {
      segments_ascend = S.ascending;
      segments = S.members;
      crossings_ascend = pairs_ascend segments crossings S.ascending C.ascending crossings_in;
      crossings = λ e f. (crossing_to e f, crossing_from e f);
      flips_ascend = pairs_ascend segments flips S.ascending W.ascending flips_in;
      flips = λ e f. (flip_to e f, flip_from e f);
    }
      where
        Crossing : Pair → Type 0
        Crossing g = IsSegment points g.0 × IsSegment points g.1 × IsBefore g.0 g.1 × Crosses points g.0 g.1

        crossing_to : (e f : Edge) → Contains (map (linked segments) crossings) (e, f) → IsSegment points e × IsSegment points f × IsBefore e f × Crosses points e f
        crossing_to e f h = by_link (in_map (linked segments) crossings (e, f) h)
          where
            by_link : (g : Link) × Contains crossings g × (linked segments g ≡ (e, f)) → Crossing (e, f)
            by_link (g, i, is) =
                let p = (crossing_is g).0 i in
                let b = crossings_below g.0 g.1 p.0 p.1 in
                subst Crossing is (segment_at g.0 b, segment_at g.1 p.1, S.ascending g.0 g.1 no_edge p.0 p.1, p.2)
              where
                crossings_below : (a b : ℕ) → a < b → b < length segments → a < length segments
                crossings_below a b h k = omega arith

        crossing_from : (e f : Edge) → IsSegment points e × IsSegment points f × IsBefore e f × Crosses points e f → Contains (map (linked segments) crossings) (e, f)
        crossing_from e f (s, t, b, x) = by_numbers (numbered e s) (numbered f t)
          where
            by_numbers : (n : ℕ) × (n < length segments) × (edge_at segments n ≡ e) → (n : ℕ) × (n < length segments) × (edge_at segments n ≡ f) → Contains (map (linked segments) crossings) (e, f)
            by_numbers (i, hi, ei) (j, hj, ej) =
                subst (Contains (map (linked segments) crossings)) (pair_of ei ej)
                (mapped (linked segments) crossings (link i j) ((crossing_is (link i j)).1 (earlier i j hi hj (subst₂ IsBefore (sym ei) (sym ej) b), hj, subst₂ (Crosses points) (sym ei) (sym ej) x)))

        flip_to : (e f : Edge) → Contains (map (linked segments) flips) (e, f) → MayFlip points e f
        flip_to e f h = by_link (in_map (linked segments) flips (e, f) h)
          where
            by_link : (g : Link) × Contains flips g × (linked segments g ≡ (e, f)) → MayFlip points e f
            by_link (g, i, is) = subst (λ (p : Pair). MayFlip points p.0 p.1) is ((flip_is g).0 i).2

        flip_from : (e f : Edge) → MayFlip points e f → Contains (map (linked segments) flips) (e, f)
        flip_from e f (a, b, c, d, he, hf, q) = by_numbers (numbered e (subst (IsSegment points) (sym he) q.from)) (numbered f (subst (IsSegment points) (sym hf) q.to))
          where
            by_numbers : (n : ℕ) × (n < length segments) × (edge_at segments n ≡ e) → (n : ℕ) × (n < length segments) × (edge_at segments n ≡ f) → Contains (map (linked segments) flips) (e, f)
            by_numbers (i, hi, ei) (j, hj, ej) =
                subst (Contains (map (linked segments) flips)) (pair_of ei ej)
                (mapped (linked segments) flips (link i j) ((flip_is (link i j)).1 (hi, hj, subst₂ (MayFlip points) (sym ei) (sym ej) (a, b, c, d, he, hf, q))))
