-- The first member that a segment crosses, found by turning round the segment's low end.
use Rattle.std.proofs.Common.{◌≡◌, ◌≢◌, ◌⊎◌, inl, inr, ◌↔◌, ℕ, zero, suc, ◌<◌, ◌≤◌, pos, Bool, true, false, cond, ◌&&◌, IsTrue, MatchBool, List, length, Contains, refl, sym, ◌∙◌, subst, true≢false, arith}
use Rattle.std.specs.Prelude.{Decides}
use Rattle.std.proofs.lemmas.Bool.Decides.{Decides-and}
use native.Mathlib.Decide.{ℕ_discrete}
use Rattle.geo_orient.specs.declared.Point.{Point}
use Rattle.edge_table.specs.declared.edge.Edge.{Edge}
use Rattle.edge_table.proofs.Edges.{edge_of}
use Rattle.tri_theory.specs.Points.{ArePlaced, IsLeft, turn}
use Rattle.tri_theory.specs.Triangulations.{AreJoined, IsEmptyTriangle, IsTriangulation}
use Rattle.tri_theory.specs.Crossings.{is_left}
use Rattle.tri_theory.proofs.Plane.{Plane, mirror, left, turned, back_turned, not_both, sides_of, flat_swap, flat_turn}
use Rattle.tri_theory.proofs.Net.{Tri, Net, mirror_net, not_flat, on_ray, later}
use Rattle.tri_theory.proofs.Flip.{turn_tri, never_left}
use Rattle.tri_theory.proofs.Lists.{plane, net_of, tri_to, tri_from}
use Rattle.crossing_law.proofs.Counts.{left_decided}
use Rattle.cross_bound.specs.Walks.{IsNonMember, IsFirst}

-- the far side of a triangle at u, where v lies left of the one near side, and not left of the other one
far_side : (S : Plane) (J : ℕ → ℕ → Type 0) → Net S J → (u v : ℕ) → v < S.n → v ≢ u → ((k : ℕ) → k < S.n → ¬ S.between u v k) → ¬ J u v → (x y : ℕ) → Tri S J u x y → left S u x v → ¬ left S u y v → left S y u v × left S y x v
far_side S J N u v hv apart clear outside x y t b nb = by_side (sides_of S u y v)
  where
    not_x : v ≢ x
    not_x e = outside (subst (λ k. J u k) (sym e) t.ab)

    not_y : v ≢ y
    not_y e = outside (subst (λ k. J u k) (sym e) (N.symm t.ca))

    far : left S y u v → left S x u v ⊎ (left S y x v ⊎ left S u y v) → left S y x v
    far r (inl h) = absurd (not_both S h b)
    far r (inr (inl h)) = h
    far r (inr (inr h)) = absurd (nb h)

    by_ray : S.between u y v ⊎ S.between u v y → ⊥
    by_ray (inl m) = N.clear (N.symm t.ca) v hv m
    by_ray (inr m) = clear y (N.in_range t.bc) m

    by_side : left S u y v ⊎ (left S y u v ⊎ (S.o u y v ≡ pos 0)) → left S y u v × left S y x v
    by_side (inl h) = absurd (nb h)
    by_side (inr (inl r)) = (r, far r (t.empty v hv apart not_x not_y))
    by_side (inr (inr e)) = absurd (by_ray (on_ray S u x y v (N.in_range t.bc) hv (λ i. not_y (sym i)) e b t.turns))

turned_over : (S : Plane) (J : ℕ → ℕ → Type 0) → Net S J → (x u y : ℕ) → Tri S J x u y → Tri (mirror S) J u x y
turned_over S J N x u y t = record {
  turns = t.turns;
  ab = N.symm t.ab;
  bc = N.symm t.ca;
  ca = N.symm t.bc;
  empty = λ p r nu nx ny. reorder (t.empty p r nx nu ny);
}
  where
    reorder : {X Y Z : Type 0} → X ⊎ (Y ⊎ Z) → X ⊎ (Z ⊎ Y)
    reorder (inl x) = inl x
    reorder (inr (inl y)) = inr (inr y)
    reorder (inr (inr z)) = inr (inl z)

-- ---- how many numbers below n pass a test
abbrev pub count_below : (ℕ → Bool) → ℕ → ℕ
count_below p zero = 0
count_below p (suc n) = cond (p n) (suc (count_below p n)) (count_below p n)

count_at_most : (p q : ℕ → Bool) (n : ℕ) → ((y : ℕ) → p y ≡ true → q y ≡ true) → count_below p n ≤ count_below q n
count_at_most p q zero sub = omega arith
count_at_most p q (suc n) sub = by_tests (p n) (q n) refl refl (count_at_most p q n sub)
  where
    by_tests : (s t : Bool) → p n ≡ s → q n ≡ t → count_below p n ≤ count_below q n → cond s (suc (count_below p n)) (count_below p n) ≤ cond t (suc (count_below q n)) (count_below q n)
    by_tests true true i j l = omega (arith, l)
    by_tests true false i j l = absurd (true≢false (sym (sub n i) ∙ j))
    by_tests false true i j l = omega (arith, l)
    by_tests false false i j l = l

count_fewer : (p q : ℕ → Bool) (n z : ℕ) → z < n → ((y : ℕ) → p y ≡ true → q y ≡ true) → p z ≡ false → q z ≡ true → count_below p n < count_below q n
count_fewer p q zero z l sub np hq = absurd (omega arith)
count_fewer p q (suc n) z l sub np hq = by_place (ℕ_discrete z n) (λ m. count_fewer p q n z m sub np hq)
  where
    here : (s t : Bool) → p n ≡ s → q n ≡ t → p n ≡ false → q n ≡ true → count_below p n ≤ count_below q n → cond s (suc (count_below p n)) (count_below p n) < cond t (suc (count_below q n)) (count_below q n)
    here true t i j f g m = absurd (true≢false (sym i ∙ f))
    here false true i j f g m = omega (arith, m)
    here false false i j f g m = absurd (true≢false (sym g ∙ j))

    before : (s t : Bool) → p n ≡ s → q n ≡ t → count_below p n < count_below q n → cond s (suc (count_below p n)) (count_below p n) < cond t (suc (count_below q n)) (count_below q n)
    before true true i j m = omega (arith, m)
    before true false i j m = absurd (true≢false (sym (sub n i) ∙ j))
    before false true i j m = omega (arith, m)
    before false false i j m = m

    by_place : Dec (z ≡ n) → (z < n → count_below p n < count_below q n) → count_below p (suc n) < count_below q (suc n)
    by_place (yes e) _ = here (p n) (q n) refl refl (subst (λ k. p k ≡ false) e np) (subst (λ k. q k ≡ true) e hq) (count_at_most p q n sub)
    by_place (no ne) again = before (p n) (q n) refl refl (again (omega arith))

-- the points between the way from u to w and that from u to v, which is left of it
abbrev pub wedge_left : List Point → ℕ → ℕ → ℕ → ℕ
wedge_left points u v w = count_below (λ y. is_left points u w y && is_left points u y v) (length points)

-- the same, where it is right of it
abbrev pub wedge_right : List Point → ℕ → ℕ → ℕ → ℕ
wedge_right points u v w = count_below (λ y. is_left points w u y && is_left points y u v) (length points)

module _ (points : List Point) (P : ArePlaced points) where
  abbrev S : Plane
  S = plane points P

  both_left : (a b c d e f : ℕ) → Decides (is_left points a b c && is_left points d e f) (IsLeft points a b c × IsLeft points d e f)
  both_left a b c d e f = Decides-and (is_left points a b c) (is_left points d e f) (left_decided points a b c) (left_decided points d e f)

  not_true : (t : Bool) → (t ≡ true → ⊥) → t ≡ false
  not_true true h = absurd (h refl)
  not_true false h = refl

  -- each turn leaves fewer points between
  pub fewer_left : (u v x z : ℕ) → z < length points → IsLeft points u x v → IsLeft points u z v → IsLeft points u x z → wedge_left points u v z < wedge_left points u v x
  fewer_left u v x z l hx hz h =
      count_fewer (λ y. is_left points u z y && is_left points u y v) (λ y. is_left points u x y && is_left points u y v) (length points) z l
      (λ y t. let k = (both_left u z y u y v).0 t in (both_left u x y u y v).1 (later S u v x z y hx hz k.1 h k.0, k.1))
      (not_true (is_left points u z z && is_left points u z v) (λ t. (never_left S u z).1 ((both_left u z z u z v).0 t).0)) ((both_left u x z u z v).1 (h, hz))

  pub fewer_right : (u v x z : ℕ) → z < length points → IsLeft points x u v → IsLeft points z u v → IsLeft points x u z → wedge_right points u v z < wedge_right points u v x
  fewer_right u v x z l hx hz h =
      count_fewer (λ y. is_left points z u y && is_left points y u v) (λ y. is_left points x u y && is_left points y u v) (length points) z l
      (λ y t. let k = (both_left z u y y u v).0 t in (both_left x u y y u v).1 (later (mirror S) u v x z y hx hz k.1 h k.0, k.1))
      (not_true (is_left points z u z && is_left points z u v) (λ t. (never_left S z u).2 ((both_left z u z z u v).0 t).0)) ((both_left x u z z u v).1 (h, hz))

  -- a point off a line is on one of its sides
  pub on_right_side : (a b c : ℕ) → turn points a b c ≢ pos 0 → ¬ IsLeft points a b c → IsLeft points b a c
  on_right_side a b c n m = by_sides (sides_of S a b c)
    where
      by_sides : left S a b c ⊎ (left S b a c ⊎ (S.o a b c ≡ pos 0)) → IsLeft points b a c
      by_sides (inl h) = absurd (m h)
      by_sides (inr (inl h)) = h
      by_sides (inr (inr e)) = absurd (n e)

  pub not_on_line : (a b c : ℕ) → IsLeft points b a c → turn points a b c ≢ pos 0
  not_on_line a b c h e = not_flat h (flat_swap S a b c e)

  pub off_by : (a b c : ℕ) (t : Bool) → ¬ IsLeft points a b c → IsTrue t ↔ IsLeft points b a c → MatchBool t (turn points a b c ≢ pos 0) (turn points a b c ≡ pos 0)
  off_by a b c true n is = not_on_line a b c (is.0 refl)
  off_by a b c false n is = by_sides (sides_of S a b c)
    where
      by_sides : left S a b c ⊎ (left S b a c ⊎ (S.o a b c ≡ pos 0)) → turn points a b c ≡ pos 0
      by_sides (inl h) = absurd (n h)
      by_sides (inr (inl h)) = absurd (true≢false (sym (is.1 h)))
      by_sides (inr (inr e)) = e

  -- what is off one line through two points is off the other
  pub off_other : (u v x c : ℕ) → u < length points → v < length points → u ≢ v → turn points u x v ≡ pos 0 → turn points u x c ≢ pos 0 → turn points u c v ≢ pos 0
  off_other u v x c hu hv ne flat off e = off (S.same_line u v x c hu hv ne (last_two x v flat) (last_two c v e))
    where
      last_two : (x y : ℕ) → S.o u x y ≡ pos 0 → S.o u y x ≡ pos 0
      last_two x y e = flat_swap S y u x (flat_turn S x y u (flat_turn S u x y e))

  module _ (T : List Edge) (I : IsTriangulation points T) where
    abbrev N : Net S (AreJoined T)
    N = net_of points P T I

    pub joined_back : (a b : ℕ) → AreJoined T a b → AreJoined T b a
    joined_back a b j = N.symm j

    pub end_in_range : (a b : ℕ) → AreJoined T a b → b < length points
    end_in_range a b j = N.in_range j

    pub not_self : (a b : ℕ) → AreJoined T a b → a ≢ b
    not_self a b j = N.apart j

    -- a member has a triangle
    pub some_triangle : (a b : ℕ) → AreJoined T a b → ((w : ℕ) → ¬ IsEmptyTriangle points T a b w) → ((w : ℕ) → ¬ IsEmptyTriangle points T b a w) → ⊥
    some_triangle a b j n m = by_side (S.off_line a b (N.in_range (N.symm j)) (N.in_range j) (N.apart j))
      where
        first : (w : ℕ) × IsEmptyTriangle points T a b w → ⊥
        first (w, t) = n w t

        second : (w : ℕ) × IsEmptyTriangle points T b a w → ⊥
        second (w, t) = m w t

        by_side : (k : ℕ) × (k < S.n) × (left S a b k ⊎ left S b a k) → ⊥
        by_side (k, hk, inl h) = first (I.sides a b k j hk h)
        by_side (k, hk, inr h) = second (I.sides b a k (N.symm j) hk h)

    module _ (e : Edge) (O : IsNonMember points T e) where
      ends_apart : {a b : ℕ} → a < b → b ≢ a
      ends_apart l = omega arith

      not_joined : ¬ AreJoined T e.0 e.1
      not_joined j = O.outside (subst (Contains T) (edge_of e O.segment.low_first) j)

      -- the way at which the turning ends
      pub first_left : (x y : ℕ) → IsEmptyTriangle points T e.0 x y → IsLeft points e.0 x e.1 → ¬ IsLeft points e.0 y e.1 → IsFirst points T e (record { left = y; right = x })
      first_left x y t b nb =
          let f = far_side S (AreJoined T) N e.0 e.1 O.segment.in_range (ends_apart O.segment.low_first) O.segment.clear not_joined x y (tri_to points P T e.0 x y t) b nb in
          record {
            crossed = record { joined = N.symm t.bc; on_left = turned S f.0; on_right = back_turned S b; before = f.1; behind = turned S t.turns };
            corner = tri_from points P T x y e.0 (turn_tri S (AreJoined T) (tri_to points P T e.0 x y t));
          }

      pub first_right : (x y : ℕ) → IsEmptyTriangle points T x e.0 y → IsLeft points x e.0 e.1 → ¬ IsLeft points y e.0 e.1 → IsFirst points T e (record { left = x; right = y })
      first_right x y t b nb =
          let f = far_side (mirror S) (AreJoined T) (mirror_net S (AreJoined T) N) e.0 e.1 O.segment.in_range (ends_apart O.segment.low_first) O.segment.clear not_joined x y (turned_over S (AreJoined T) N x e.0 y (tri_to points P T x e.0 y t)) b nb in
          record {
            crossed = record { joined = N.symm t.ca; on_left = turned S b; on_right = back_turned S f.0; before = f.1; behind = back_turned S t.turns };
            corner = tri_from points P T y x e.0 (turn_tri S (AreJoined T) (turn_tri S (AreJoined T) (tri_to points P T x e.0 y t)));
          }
