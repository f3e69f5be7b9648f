-- The places of segments and flips in the lists of a frame.
use Rattle.std.proofs.Common.{◌≡◌, ◌≢◌, ◌⊎◌, inl, inr, ◌↔◌, ℕ, ◌<◌, Bool, true, false, true≢false, List, length, get_or, Contains, refl, sym, ap, subst, arith}
use Rattle.std.specs.Bool.{IsTrue}
use Rattle.std.specs.List.{AllPairs, position_or_len}
use Rattle.std.proofs.lemmas.List.Elements.{Contains-get_or}
use native.Mathlib.Decide.{dec_lt}
use Rattle.geo_orient.specs.declared.Point.{Point}
use Rattle.edge_table.specs.declared.edge.Edge.{Edge}
use Rattle.edge_table.specs.Edges.{is_edge, is_member, IsBefore}
use Rattle.edge_table.proofs.Ascending.{not_before_itself}
use Rattle.formula_law.specs.Frames.{Pair, IsPairBefore, Frame, IsFrame}
use Rattle.formula_law.specs.Formula.{is_pair}
use Rattle.formula_law.proofs.EdgeTests.{edge_place, pair_place, edge_test, edge_equal, member_true, not_member}
use Rattle.formula_law.proofs.Clauses.{true_or_false}
use Rattle.formula_parts.specs.Lists.{no_edge, edge_at}
use Rattle.formula_parts.specs.Building.{no_pair, pair_at}

-- equal elements of a list in strict order stand at one place
pub one_place : {X : Type 0} (R : X → X → Type 0) → ((x : X) → ¬ R x x) → (xs : List X) → AllPairs R xs → (i j : ℕ) (d : X) → i < length xs → j < length xs → get_or xs i d ≡ get_or xs j d → i ≡ j
one_place R strict xs up i j d hi hj e = by_tests (dec_lt i j) (dec_lt j i)
  where
    by_tests : Dec (i < j) → Dec (j < i) → i ≡ j
    by_tests (yes l) _ = absurd (strict (get_or xs j d) (subst (λ x. R x (get_or xs j d)) e (up i j d l hj)))
    by_tests (no n) (yes l) = absurd (strict (get_or xs i d) (subst (λ x. R x (get_or xs i d)) (sym e) (up j i d l hi)))
    by_tests (no n) (no m) = omega arith

pub pair_strict : (g : Pair) → ¬ IsPairBefore g g
pair_strict g (inl h) = not_before_itself g.0 h
pair_strict g (inr h) = not_before_itself g.1 h.1

pub member_is : (es : List Edge) (e : Edge) (b : Bool) → IsTrue b ↔ Contains es e → b ≡ is_member es e
member_is es e true h = sym (member_true es e (h.0 refl))
member_is es e false h = sym (not_member es e (λ k. true≢false (sym (h.1 k))))

module _ (points : List Point) (F : Frame) (I : IsFrame points F) where
  pub segment_number : (n : ℕ) → n < length F.segments → position_or_len (is_edge (edge_at F.segments n)) F.segments ≡ n
  segment_number n h =
      let p = edge_place F.segments (edge_at F.segments n) no_edge (Contains-get_or F.segments n no_edge h) in
      one_place IsBefore not_before_itself F.segments I.segments_ascend (position_or_len (is_edge (edge_at F.segments n)) F.segments) n no_edge p.0 h p.1

  pub flip_number : (n : ℕ) → n < length F.flips → position_or_len (is_pair (pair_at F.flips n)) F.flips ≡ n
  flip_number n h =
      let p = pair_place F.flips (pair_at F.flips n) no_pair (Contains-get_or F.flips n no_pair h) in
      one_place IsPairBefore pair_strict F.flips I.flips_ascend (position_or_len (is_pair (pair_at F.flips n)) F.flips) n no_pair p.0 h p.1

  -- the test of equal segments, by their numbers
  pub same_segment : (i j : ℕ) → j ≡ i → is_edge (edge_at F.segments i) (edge_at F.segments j) ≡ true
  same_segment i j e = edge_test (edge_at F.segments i) (edge_at F.segments j) (ap (edge_at F.segments) (sym e))

  pub other_segment : (i j : ℕ) → i < length F.segments → j < length F.segments → j ≢ i → is_edge (edge_at F.segments i) (edge_at F.segments j) ≡ false
  other_segment i j hi hj n = by_test (true_or_false (is_edge (edge_at F.segments i) (edge_at F.segments j)))
    where
      by_test : (is_edge (edge_at F.segments i) (edge_at F.segments j) ≡ true) ⊎ (is_edge (edge_at F.segments i) (edge_at F.segments j) ≡ false) → is_edge (edge_at F.segments i) (edge_at F.segments j) ≡ false
      by_test (inl h) = absurd (n (sym (one_place IsBefore not_before_itself F.segments I.segments_ascend i j no_edge hi hj (edge_equal (edge_at F.segments i) (edge_at F.segments j) h))))
      by_test (inr h) = h
