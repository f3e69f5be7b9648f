-- Orders of all points, and of the ends of two chains.
use Rattle.std.proofs.Common.{◌≡◌, ◌∙◌, ◌⊎◌, inl, inr, ℕ, ◌-◌, ◌<◌, ◌≤◌, ℤ, List, [], ◌++◌, length, take, drop, get_or, Contains, sym, ap, ap₂, subst, arith, ⊎_elim}
use Rattle.std.proofs.lemmas.List.{get_or_default, take_rest}
use Rattle.std.proofs.lemmas.List.Elements.{Contains-append_left, Contains-append_right, Contains-append_cases}
use Rattle.geo_orient.specs.declared.Point.{Point}
use Rattle.planar_law.specs.Chains.{link}
use Rattle.sweep_law.specs.Sweeps.{IsSweepOrder}
use Rattle.sweep_law.specs.Boundaries.{AreTaken}
use Rattle.gen_instance.specs.Orders.{AreNamed, AreInOrder}
use Rattle.gen_instance.proofs.Members.{behind, is_behind}

-- the numbers from 0 on, in order
pub whole : (points : List Point) (a b : ℤ) (numbers order : List ℕ) (n : ℕ) → length numbers ≡ n → ((k : ℕ) → k < n → get_or numbers k 0 ≡ k) → n ≡ length points → AreInOrder points a b numbers order → IsSweepOrder points a b order
whole points a b numbers order n count values all O = record {
  named = λ i h. named i (O.no_other i h);
  all = λ i l. O.kept i (i, omega (arith, l, count, all), get_or_default numbers i i 0 (omega (arith, l, count, all)) ∙ values i (omega (arith, l, all)));
  ascends = O.ascend;
}
  where
    named : (i : ℕ) → Contains numbers i → i < length points
    named i (k, l, e) = let f : k ≡ i = sym (values k (omega (arith, l, count))) ∙ (get_or_default numbers k 0 i l ∙ e) in omega (arith, l, count, all, f)

module _ (points : List Point) (rights lefts : List ℕ) (i j : ℕ) (R : AreNamed points rights) (L : AreNamed points lefts) where
  named_behind : (chain : List ℕ) (m : ℕ) → AreNamed points chain → AreNamed points (drop m chain)
  named_behind chain m N x h = by_place (behind chain m x h)
    where
      by_place : (k : ℕ) × (m ≤ k) × (k < length chain) × (x ≡ link chain k) → x < length points
      by_place (k, l, w, e) = subst (λ y. y < length points) (sym e) (N (link chain k) (Rattle.std.proofs.lemmas.List.Elements.Contains-get_or chain k 0 w))

  pub ends_named : AreNamed points (drop i rights ++ drop j lefts)
  ends_named x h = ⊎_elim (named_behind rights i R x) (named_behind lefts j L x) (Contains-append_cases (drop i rights) (drop j lefts) x h)

-- the ends of two chains in order
pub ends_taken : (points : List Point) (a b : ℤ) (rights lefts : List ℕ) (i j : ℕ) (taken : List ℕ) → AreInOrder points a b (drop i rights ++ drop j lefts) taken → AreTaken points a b rights i lefts j taken
ends_taken points a b rights lefts i j taken O = record {
  ascend = O.ascend;
  sound = λ r h. by_side r (Contains-append_cases (drop i rights) (drop j lefts) r (O.no_other r h));
  rights_in = λ k l m. O.kept (link rights k) (Contains-append_left (drop i rights) (drop j lefts) (link rights k) (is_behind rights i k l m));
  lefts_in = λ k l m. O.kept (link lefts k) (Contains-append_right (drop i rights) (drop j lefts) (link lefts k) (is_behind lefts j k l m));
}
  where
    by_side : (r : ℕ) → Contains (drop i rights) r ⊎ Contains (drop j lefts) r → ((k : ℕ) × (i ≤ k) × (k < length rights) × (r ≡ link rights k)) ⊎ ((k : ℕ) × (j ≤ k) × (k < length lefts) × (r ≡ link lefts k))
    by_side r (inl h) = inl (behind rights i r h)
    by_side r (inr h) = inr (behind lefts j r h)

pub ends_are : (rights lefts none first all now : List ℕ) (i j : ℕ) → none ≡ [] → first ≡ none ++ take (length rights - i) (drop i rights) → all ≡ first ++ take (length lefts - j) (drop j lefts) → now ≡ all → now ≡ drop i rights ++ drop j lefts
ends_are rights lefts none first all now i j e f g h =
    h ∙ (g ∙ ap₂ ◌++◌ (f ∙ (ap (λ xs. xs ++ take (length rights - i) (drop i rights)) e ∙ take_rest rights i)) (take_rest lefts j))
