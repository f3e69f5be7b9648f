-- A sweep that has passed some points, and one more of them.
use Rattle.std.proofs.Common.{◌≡◌, ◌∙◌, ℕ, ◌+◌, ◌<◌, ℤ, List, [], ◌∷◌, ◌++◌, length, map, take, drop, get_or, Contains, refl, sym, ap, ap₂, subst, subst₂, arith, get_or-take, length-take-le}
use Rattle.std.proofs.lemmas.List.{get_or_default, map-append, take_more, drop_more}
use Rattle.std.proofs.lemmas.List.Elements.{Contains-get_or}
use Rattle.geo_orient.specs.declared.Point.{Point}
use Rattle.tri_theory.specs.Points.{point}
use Rattle.sweep_law.specs.Sweeps.{ComesBefore, IsSweepOrder, joined, swept, sweep_pairs}
use Rattle.sweep_law.specs.Boundaries.{IsDirection, right, left, CanBeSwept, ComesNext, IsSwept, IsFirstSeen, AreTaken, turned, pairs_with}
use Rattle.gen_instance.specs.declared.sweep.Sweep.{Sweep}
use Rattle.gen_instance.specs.Generated.{raw_pair}
use Rattle.gen_instance.specs.Orders.{AreNamed}
use Rattle.gen_instance.specs.Sweeping.{IsSweeping}
use Rattle.sweep_law.proofs.Proved.{first_points_are_alone, sweeps_join_what_is_seen, boundaries_grow}

-- an order of the points isn't empty
pub some_first : (points : List Point) (a b : ℤ) (order : List ℕ) → CanBeSwept points → IsSweepOrder points a b order → 0 < length order
some_first points a b order C O = by_member (O.all C.placed.spread.0 C.placed.spread.3)
  where
    by_member : Contains order C.placed.spread.0 → 0 < length order
    by_member (k, l, e) = omega (arith, l)

-- the first point is passed
pub begins : (points : List Point) (a b : ℤ) (order : List ℕ) (p : ℕ) (sweep : Sweep) → CanBeSwept points → IsDirection a b → IsSweepOrder points a b order → 0 < length order → p ≡ get_or order 0 0
    → sweep.pairs ≡ [] → sweep.rights.items ≡ p ∷ [] → sweep.lefts.items ≡ p ∷ [] → IsSweeping points a b order 1 sweep
begins points a b [] p sweep C D O l e f g h = absurd (omega (arith, l))
begins points a b (q ∷ order) p sweep C D O l e f g h = record {
  listed = [];
  pairs = f;
  passed = subst₂ (λ rs ls. IsSwept points a b (q ∷ []) [] rs ls) (sym (g ∙ ap (λ r. r ∷ []) e)) (sym (h ∙ ap (λ r. r ∷ []) e)) (first_points_are_alone points a b q next);
  rest = refl;
}
  where
    next : ComesNext points a b [] q
    next = record { named = O.named q (0, l, refl); after = λ i m. absurd (none m) }
      where
        none : {i : ℕ} → Contains [] i → ⊥
        none (k, n, _) = absurd (omega (arith, n))

module _ (points : List Point) (a b : ℤ) (order : List ℕ) (place : ℕ) (sweep : Sweep) (C : CanBeSwept points) (D : IsDirection a b) (O : IsSweepOrder points a b order) (l : place < length order) (S : IsSweeping points a b order place sweep) where
  pub point_named : get_or order place 0 < length points
  point_named = O.named (get_or order place 0) (Contains-get_or order place 0 l)

  pub rights_named : (chain : List ℕ) → chain ≡ sweep.rights.items → AreNamed points chain
  rights_named chain e i h = S.passed.passed.named i (S.passed.on_right.members i (subst (λ xs. Contains xs i) e h))

  pub lefts_named : (chain : List ℕ) → chain ≡ sweep.lefts.items → AreNamed points chain
  lefts_named chain e i h = S.passed.passed.named i (S.passed.on_left.members i (subst (λ xs. Contains xs i) e h))

  next : ComesNext points a b (take place order) (get_or order place 0)
  next = record { named = point_named; after = λ i h. by_place i h }
    where
      by_place : (i : ℕ) → Contains (take place order) i → ComesBefore a b (point points i) (point points (get_or order place 0))
      by_place i (k, m, e) = subst (λ r. ComesBefore a b (point points r) (point points (get_or order place 0))) same (O.ascends k place 0 early l)
        where
          early : k < place
          early = subst (λ n. k < n) (length-take-le place order (omega (arith, l))) m

          same : get_or order k 0 ≡ i
          same = get_or_default order k 0 i (omega (arith, l, early)) ∙ (sym (get_or-take place order k i early) ∙ e)

  -- what the point sees of the chains, and what is taken of them
  module _ (rights lefts right_ends left_ends taken seen : List ℕ) (i j : ℕ) (e : rights ≡ sweep.rights.items) (f : lefts ≡ sweep.lefts.items) (g : right_ends ≡ sweep.rights.items) (h : left_ends ≡ sweep.lefts.items) (k : seen ≡ taken)
      (F : IsFirstSeen right points rights (get_or order place 0) i) (G : IsFirstSeen left points lefts (get_or order place 0) j) (T : AreTaken points a b right_ends i left_ends j taken) where
    F' : IsFirstSeen right points sweep.rights.items (get_or order place 0) i
    F' = subst (λ xs. IsFirstSeen right points xs (get_or order place 0) i) e F

    G' : IsFirstSeen left points sweep.lefts.items (get_or order place 0) j
    G' = subst (λ xs. IsFirstSeen left points xs (get_or order place 0) j) f G

    T' : AreTaken points a b sweep.rights.items i sweep.lefts.items j seen
    T' = subst (AreTaken points a b sweep.rights.items i sweep.lefts.items j) (sym k) (subst₂ (λ xs ys. AreTaken points a b xs i ys j taken) g h T)

    grows : IsSwept points a b (take place order ++ get_or order place 0 ∷ []) (S.listed ++ pairs_with (get_or order place 0) seen) (turned sweep.rights.items i (get_or order place 0)) (turned sweep.lefts.items j (get_or order place 0))
    grows = boundaries_grow points a b (take place order) S.listed sweep.rights.items sweep.lefts.items (get_or order place 0) i j seen C D S.passed next F' G' T'

    joins : joined points (take place order) (get_or order place 0) S.listed ≡ S.listed ++ pairs_with (get_or order place 0) seen
    joins = sweeps_join_what_is_seen points a b (take place order) S.listed sweep.rights.items sweep.lefts.items (get_or order place 0) i j seen C D S.passed next F' G' T'

    rest : swept points (take (place + 1) order) (S.listed ++ pairs_with (get_or order place 0) seen) (drop (place + 1) order) ≡ sweep_pairs points order
    rest =
        ap₂ (λ es fs. swept points es fs (drop (place + 1) order)) (take_more order place 0 l) (sym joins)
        ∙ (ap (swept points (take place order) S.listed) (sym (drop_more order place 0 l)) ∙ S.rest)

    -- one point more is passed
    pub passes : (after : Sweep) → after.pairs ≡ sweep.pairs ++ map raw_pair (pairs_with (get_or order place 0) seen) → after.rights.items ≡ turned sweep.rights.items i (get_or order place 0) → after.lefts.items ≡ turned sweep.lefts.items j (get_or order place 0)
        → IsSweeping points a b order (place + 1) after
    passes after m n o = record {
      listed = S.listed ++ pairs_with (get_or order place 0) seen;
      pairs = m ∙ (ap (λ ps. ps ++ map raw_pair (pairs_with (get_or order place 0) seen)) S.pairs ∙ sym (map-append raw_pair S.listed (pairs_with (get_or order place 0) seen)));
      passed = subst (λ es. IsSwept points a b es (S.listed ++ pairs_with (get_or order place 0) seen) after.rights.items after.lefts.items) (sym (take_more order place 0 l))
          (subst₂ (IsSwept points a b (take place order ++ get_or order place 0 ∷ []) (S.listed ++ pairs_with (get_or order place 0) seen)) (sym n) (sym o) grows);
      rest = rest;
    }
