-- The tests and functions of images mean what they are named after.
use Rattle.std.proofs.Common.{◌≡◌, ◌≢◌, ◌⊎◌, inl, inr, ℕ, zero, suc, ◌+◌, ◌<◌, Bool, true, false, cond, ◌&&◌, eqb, eqb-true, eq-eqb, Option, Some, None, List, [], ◌∷◌, length, Contains, refl, sym, ap, ap₂, ◌∙◌, subst, arith}
use native.Mathlib.Decide.{ℕ_discrete}
use Rattle.std.specs.Prelude.{Decides, find}
use Rattle.std.specs.List.{range_with_len}
use Rattle.std.proofs.lemmas.Bool.Decides.{Decides-and, Decides-or}
use Rattle.geo_orient.specs.declared.Point.{Point}
use Rattle.tri_theory.specs.Points.{ArePlaced, IsLeft}
use Rattle.edge_table.specs.declared.edge.Edge.{Edge}
use Rattle.edge_table.specs.Edges.{edge}
use Rattle.tri_theory.specs.Triangulations.{Crosses, IsOutside, IsEmptyTriangle, IsTriangulation}
use Rattle.tri_theory.specs.Flips.{IsQuad, FlipsTo}
use Rattle.tri_theory.specs.Crossings.{crosses}
use Rattle.flip_list_law.specs.declared.Flip.{Flip}
use Rattle.flip_list_law.specs.FlipLists.{Leads, IsFlipList, flipped_edges, with_edge}
use Rattle.plan_law.specs.Images.{is_equal, has_member, without, all_below, is_off, is_empty_triangle, right_corner, left_corner, image_at, image_of, after_flip, put_first, flips_in_turn}
use Rattle.tri_theory.proofs.Plane.{Plane}
use Rattle.tri_theory.proofs.Net.{Tri, Net}
use Rattle.tri_theory.proofs.Flip.{turn_tri, half_turn, one_apex}
use Rattle.edge_table.proofs.Edges.{pair, edge_of, edge_is, edge_swap, edge_discrete, contains_here, contains_later, contains_cases}
use Rattle.tri_theory.proofs.Lists.{plane, tri_to, net_of, quad_to, quad_from}
use Rattle.crossing_law.proofs.Counts.{left_decided, cross_decided}
use Rattle.flip_list_law.proofs.FlipSets.{without_edge, kept_unless, without_cases, without_has, without_ascending, with_edge_cases, with_edge_has, with_edge_ascending, image_is_new, flip_unique, flip_triangulation}

-- ---- members
pub equal_decided : (e f : Edge) → Decides (is_equal e f) (e ≡ f)
equal_decided e f = (λ h. let p = both h in pair (eqb-true e.0 f.0 p.0) (eqb-true e.1 f.1 p.1), λ h. subst (λ (g : Edge). is_equal e g ≡ true) h itself)
  where
    both : is_equal e f ≡ true → (eqb e.0 f.0 ≡ true) × (eqb e.1 f.1 ≡ true)
    both h = (Decides-and (eqb e.0 f.0) (eqb e.1 f.1) (λ k. k, λ k. k) (λ k. k, λ k. k)).0 h

    itself : is_equal e e ≡ true
    itself = ap₂ ◌&&◌ (eq-eqb e.0 e.0 refl) (eq-eqb e.1 e.1 refl)

pub member_decided : (es : List Edge) (e : Edge) → Decides (has_member es e) (Contains es e)
member_decided [] e = (λ h. absurd (cc), λ (k, l, h). absurd (omega arith))
member_decided (f ∷ es) e = by_cases (Decides-or (is_equal f e) (has_member es e) (equal_decided f e) (member_decided es e))
  where
    to : (f ≡ e) ⊎ Contains es e → Contains (f ∷ es) e
    to (inl h) = contains_here e f es h
    to (inr h) = contains_later e f es h

    by_cases : Decides (has_member (f ∷ es) e) ((f ≡ e) ⊎ Contains es e) → Decides (has_member (f ∷ es) e) (Contains (f ∷ es) e)
    by_cases d = (λ h. to (d.0 h), λ h. d.1 (contains_cases e f es h))

without_same : (e : Edge) (es : List Edge) → without e es ≡ without_edge e es
without_same e [] = refl
without_same e (f ∷ es) = by_tests (is_equal f e) (edge_discrete f e) (equal_decided f e) (without_same e es)
  where
    by_tests : (v : Bool) (d : Dec (f ≡ e)) → Decides v (f ≡ e) → without e es ≡ without_edge e es → cond v (without e es) (f ∷ without e es) ≡ kept_unless d (without_edge e es)
    by_tests true (yes i) _ h = h
    by_tests true (no n) t h = absurd (n (t.0 refl))
    by_tests false (yes i) t h = absurd (let k = t.1 i in cc)
    by_tests false (no n) _ h = ap (λ l. f ∷ l) h

-- ---- empty triangles
below_decided : (n : ℕ) (test : ℕ → Bool) (Q : ℕ → Type 0) → ((k : ℕ) → Decides (test k) (Q k)) → Decides (all_below n test) ((k : ℕ) → k < n → Q k)
below_decided zero test Q d = (λ h k l. absurd (omega arith), λ h. refl)
below_decided (suc n) test Q d = by_cases (Decides-and (test n) (all_below n test) (d n) (below_decided n test Q d))
  where
    at : (k : ℕ) → k < suc n → Q n × ((k : ℕ) → k < n → Q k) → Dec (k ≡ n) → Q k
    at k l p (yes e) = subst Q (sym e) p.0
    at k l p (no ne) = p.1 k (omega arith)

    by_cases : Decides (all_below (suc n) test) (Q n × ((k : ℕ) → k < n → Q k)) → Decides (all_below (suc n) test) ((k : ℕ) → k < suc n → Q k)
    by_cases p = (λ h k l. at k l (p.0 h) (ℕ_discrete k n), λ h. p.1 (h n (omega arith), λ k l. h k (omega arith)))

abbrev IsOff : List Point → ℕ → ℕ → ℕ → ℕ → Type 0
IsOff points a b c p = (p ≡ a) ⊎ ((p ≡ b) ⊎ ((p ≡ c) ⊎ IsOutside points a b c p))

num_decided : (m n : ℕ) → Decides (eqb m n) (m ≡ n)
num_decided m n = (eqb-true m n, eq-eqb m n)

off_decided : (points : List Point) (a b c p : ℕ) → Decides (is_off points a b c p) (IsOff points a b c p)
off_decided points a b c p =
    Decides-or _ _ (num_decided p a) (Decides-or _ _ (num_decided p b) (Decides-or _ _ (num_decided p c)
    (Decides-or _ _ (left_decided points b a p) (Decides-or _ _ (left_decided points c b p) (left_decided points a c p)))))

pub triangle_decided : (points : List Point) (edges : List Edge) (a b c : ℕ) → Decides (is_empty_triangle points edges a b c) (IsEmptyTriangle points edges a b c)
triangle_decided points edges a b c =
    by_parts (Decides-and _ _ (left_decided points a b c) (Decides-and _ _ (member_decided edges (edge a b)) (Decides-and _ _ (member_decided edges (edge b c))
    (Decides-and _ _ (member_decided edges (edge c a)) (below_decided (length points) (is_off points a b c) (IsOff points a b c) (off_decided points a b c))))))
  where
    Parts : Type 0
    Parts = IsLeft points a b c × (Contains edges (edge a b) × (Contains edges (edge b c) × (Contains edges (edge c a) × ((p : ℕ) → p < length points → IsOff points a b c p))))

    out : (p : ℕ) → p ≢ a → p ≢ b → p ≢ c → IsOff points a b c p → IsOutside points a b c p
    out p na nb nc (inl e) = absurd (na e)
    out p na nb nc (inr (inl e)) = absurd (nb e)
    out p na nb nc (inr (inr (inl e))) = absurd (nc e)
    out p na nb nc (inr (inr (inr h))) = h

    to : Parts → IsEmptyTriangle points edges a b c
    to h = record { turns = h.0; ab = h.1.0; bc = h.1.1.0; ca = h.1.1.1.0; empty = λ p l na nb nc. out p na nb nc (h.1.1.1.1 p l) }

    in_off : IsEmptyTriangle points edges a b c → (p : ℕ) → p < length points → Dec (p ≡ a) → Dec (p ≡ b) → Dec (p ≡ c) → IsOff points a b c p
    in_off t p l (yes e) _ _ = inl e
    in_off t p l (no na) (yes e) _ = inr (inl e)
    in_off t p l (no na) (no nb) (yes e) = inr (inr (inl e))
    in_off t p l (no na) (no nb) (no nc) = inr (inr (inr (t.empty p l na nb nc)))

    from : IsEmptyTriangle points edges a b c → Parts
    from t = (t.turns, (t.ab, (t.bc, (t.ca, λ p l. in_off t p l (ℕ_discrete p a) (ℕ_discrete p b) (ℕ_discrete p c)))))

    by_parts : Decides (is_empty_triangle points edges a b c) Parts → Decides (is_empty_triangle points edges a b c) (IsEmptyTriangle points edges a b c)
    by_parts d = (λ h. to (d.0 h), λ t. d.1 (from t))

-- ---- searches
pub find_passes : {X : Type 0} (test : X → Bool) (xs : List X) (x : X) → find test xs ≡ Some x → test x ≡ true
find_passes test [] x e = absurd (cc)
find_passes {X} test (y ∷ ys) x e = by_test (test y) refl e (λ k. find_passes test ys x k)
  where
    by_test : (v : Bool) → test y ≡ v → cond v (Some y) (find test ys) ≡ Some x → (find test ys ≡ Some x → test x ≡ true) → test x ≡ true
    by_test true h k _ = let i : y ≡ x = cc in subst (λ z. test z ≡ true) i h
    by_test false h k again = again k

pub find_listed : {X : Type 0} (test : X → Bool) (xs : List X) (x : X) → find test xs ≡ Some x → Contains xs x
find_listed test [] x e = absurd (cc)
find_listed {X} test (y ∷ ys) x e = by_test (test y) e (λ k. find_listed test ys x k)
  where
    later : Contains ys x → Contains (y ∷ ys) x
    later (k, l, h) = (suc k, omega arith, h)

    by_test : (v : Bool) → cond v (Some y) (find test ys) ≡ Some x → (find test ys ≡ Some x → Contains ys x) → Contains (y ∷ ys) x
    by_test true k _ = (0, omega arith, let i : y ≡ x = cc in i)
    by_test false k again = later (again k)

pub find_none : {X : Type 0} (test : X → Bool) (xs : List X) (x : X) → find test xs ≡ None → Contains xs x → test x ≡ true → ⊥
find_none test [] x e (k, l, h) t = omega arith
find_none {X} test (y ∷ ys) x e c t = by_test (test y) refl e c (λ k d. find_none test ys x k d t)
  where
    by_test : (v : Bool) → test y ≡ v → cond v (Some y) (find test ys) ≡ None → Contains (y ∷ ys) x → (find test ys ≡ None → Contains ys x → ⊥) → ⊥
    by_test true h k _ _ = cc
    by_test false h k (zero, l, i) _ = let j : test y ≡ true = subst (λ z. test z ≡ true) (sym i) t in cc
    by_test false h k (suc p, l, i) again = again k (p, omega arith, i)

in_range : (a n k : ℕ) → k < n → Contains (range_with_len a n) (a + k)
in_range a zero k h = absurd (omega arith)
in_range a (suc n) zero h = (0, omega arith, let e : a ≡ a + 0 = omega arith in e)
in_range a (suc n) (suc k) h = later (subst (Contains (range_with_len (a + 1) n)) same (in_range (a + 1) n k (omega arith)))
  where
    same : a + 1 + k ≡ a + suc k
    same = omega arith

    later : Contains (range_with_len (a + 1) n) (a + suc k) → Contains (range_with_len a (suc n)) (a + suc k)
    later (p, l, i) = (suc p, omega arith, i)

pub number_in_range : (n k : ℕ) → k < n → Contains (range_with_len 0 n) k
number_in_range n k h = let e : 0 + k ≡ k = omega arith in subst (Contains (range_with_len 0 n)) e (in_range 0 n k h)

-- the search for a number finds the only one that passes
found_number : (n k : ℕ) (test : ℕ → Bool) → k < n → test k ≡ true → ((j : ℕ) → test j ≡ true → j ≡ k) → find test (range_with_len 0 n) ≡ Some k
found_number n k test l t one = by_found (find test (range_with_len 0 n)) refl
  where
    by_found : (r : Option ℕ) → find test (range_with_len 0 n) ≡ r → r ≡ Some k
    by_found (Some j) e = ap (λ z. Some z) (one j (find_passes test (range_with_len 0 n) j e))
    by_found None e = absurd (find_none test (range_with_len 0 n) k e (number_in_range n k l) t)

-- ---- images
module _ (points : List Point) (P : ArePlaced points) (T : List Edge) (I : IsTriangulation points T) where
  abbrev S : Plane
  S = plane points P

  abbrev J : ℕ → ℕ → Type 0
  J x y = Contains T (edge x y)

  -- the corners of a flip, by the edge's ends in order
  at_ends : (e f : Edge) → FlipsTo points T e f → (b d : ℕ) × (f ≡ edge b d) × IsQuad points T e.0 b e.1 d
  at_ends e f (a, b, c, d, he, hf, q) = by_cases (edge_is a c)
    where
      by_cases : (edge a c ≡ (a, c)) ⊎ (edge a c ≡ (c, a)) → (b d : ℕ) × (f ≡ edge b d) × IsQuad points T e.0 b e.1 d
      by_cases (inl h) = (b, d, hf, subst (λ (g : Edge). IsQuad points T g.0 b g.1 d) (sym (he ∙ h)) q)
      by_cases (inr h) = (d, b, hf ∙ edge_swap b d, subst (λ (g : Edge). IsQuad points T g.0 d g.1 b) (sym (he ∙ h)) (quad_from points P T c d a b (half_turn S J (quad_to points P T a b c d q))))

  N : Net S J
  N = net_of points P T I

  right_found : (e : Edge) (b : ℕ) → IsEmptyTriangle points T e.0 b e.1 → right_corner points T e ≡ Some b
  right_found e b t =
      found_number (length points) b (λ b. is_empty_triangle points T e.0 b e.1) (N.in_range t.ab) ((triangle_decided points T e.0 b e.1).1 t)
      (λ j h. one_apex S J N e.1 e.0 j b (turned (tri_to points P T e.0 j e.1 ((triangle_decided points T e.0 j e.1).0 h))) (turned (tri_to points P T e.0 b e.1 t)))
    where
      turned : {a b c : ℕ} → Tri S J a b c → Tri S J c a b
      turned t = turn_tri S J (turn_tri S J t)

  left_found : (e : Edge) (d : ℕ) → IsEmptyTriangle points T e.0 e.1 d → left_corner points T e ≡ Some d
  left_found e d t =
      found_number (length points) d (λ d. is_empty_triangle points T e.0 e.1 d) (N.in_range t.bc) ((triangle_decided points T e.0 e.1 d).1 t)
      (λ j h. one_apex S J N e.0 e.1 j d (tri_to points P T e.0 e.1 j ((triangle_decided points T e.0 e.1 j).0 h)) (tri_to points P T e.0 e.1 d t))

  -- where e flips to f, f is found
  pub image_found : (e f : Edge) → FlipsTo points T e f → image_of points T e ≡ Some f
  image_found e f h = by_quad (at_ends e f h)
    where
      by_quad : (b d : ℕ) × (f ≡ edge b d) × IsQuad points T e.0 b e.1 d → image_of points T e ≡ Some f
      by_quad (b, d, i, q) =
          ap₂ (λ r l. image_at points T e r l) (right_found e b q.right) (left_found e d q.left) ∙ ap (λ v. cond v (Some (edge b d)) None) test ∙ ap (λ g. Some g) (sym i)
        where
          is_edge : edge e.0 e.1 ≡ e
          is_edge = by_source h
            where
              by_source : FlipsTo points T e f → edge e.0 e.1 ≡ e
              by_source (a, b', c, d', he, hf, r) = subst (λ (g : Edge). edge g.0 g.1 ≡ g) (sym he) (ordered a c)
                where
                  ordered : (a c : ℕ) → edge (edge a c).0 (edge a c).1 ≡ edge a c
                  ordered a c = pair (omega arith) (omega arith)

          test : (has_member T e && crosses points e (edge b d)) ≡ true
          test = (Decides-and (has_member T e) (crosses points e (edge b d)) (member_decided T e) (cross_decided points e (edge b d))).1
              (subst (Contains T) is_edge (subst (Contains T) (edge_swap e.1 e.0) q.right.ca), subst (λ g. Crosses points g (edge b d)) is_edge q.crosses)

  -- what is found is the image
  pub image_sound : (e f : Edge) → image_of points T e ≡ Some f → FlipsTo points T e f
  image_sound e f h = by_corners (right_corner points T e) (left_corner points T e) refl refl h
    where
      by_corners : (r l : Option ℕ) → right_corner points T e ≡ r → left_corner points T e ≡ l → image_at points T e r l ≡ Some f → FlipsTo points T e f
      by_corners (Some b) (Some d) hr hl k = by_test (has_member T e && crosses points e (edge b d)) (Decides-and (has_member T e) (crosses points e (edge b d)) (member_decided T e) (cross_decided points e (edge b d))) k
        where
          by_test : (v : Bool) → Decides v (Contains T e × Crosses points e (edge b d)) → cond v (Some (edge b d)) None ≡ Some f → FlipsTo points T e f
          by_test false d k = absurd (cc)
          by_test true t k =
              let p = t.0 refl in
              let i : edge e.0 e.1 ≡ e = edge_of e (I.segments e p.0).low_first in
              let j : f ≡ edge b d = cc in (
                e.0,
                b,
                e.1,
                d,
                sym i,
                j,
                record {
                  right = (triangle_decided points T e.0 b e.1).0 (find_passes (λ b. is_empty_triangle points T e.0 b e.1) (range_with_len 0 (length points)) b hr);
                  left = (triangle_decided points T e.0 e.1 d).0 (find_passes (λ d. is_empty_triangle points T e.0 e.1 d) (range_with_len 0 (length points)) d hl);
                  crosses = subst (λ g. Crosses points g (edge b d)) (sym i) p.1;
                },
              )
      by_corners (Some b) None hr hl k = absurd (cc)
      by_corners None l hr hl k = absurd (cc)

  -- ---- the members after a flip
  pub flip_leads : (flip : Flip) → FlipsTo points T flip.edge flip.image → Leads points T flip (after_flip T flip)
  flip_leads flip h = subst (λ l. Leads points T flip (with_edge flip.image l)) (sym (without_same flip.edge T)) made
    where
      turned : (e : Edge) → (e ≡ flip.image) ⊎ Contains (without_edge flip.edge T) e → (Contains T e × (e ≢ flip.edge)) ⊎ (e ≡ flip.image)
      turned e (inl i) = inr i
      turned e (inr k) = inl (without_cases flip.edge e T k)

      listed : (e : Edge) → (Contains T e × (e ≢ flip.edge)) ⊎ (e ≡ flip.image) → (e ≡ flip.image) ⊎ Contains (without_edge flip.edge T) e
      listed e (inl k) = inr (without_has flip.edge e T k.0 k.1)
      listed e (inr i) = inl i

      made : Leads points T flip (with_edge flip.image (without_edge flip.edge T))
      made = record {
        flips = h;
        ascending = with_edge_ascending flip.image (without_edge flip.edge T) (without_ascending flip.edge T I.ascending) (λ k. image_is_new points P T flip I h (without_cases flip.edge flip.image T k).0);
        members = λ e. (λ k. turned e (with_edge_cases flip.image e (without_edge flip.edge T) k), λ k. with_edge_has flip.image e (without_edge flip.edge T) (listed e k));
      }

  pub next_is : (flip : Flip) (next : List Edge) → Leads points T flip next → next ≡ after_flip T flip
  next_is flip next X = flip_unique points T next (after_flip T flip) flip X (flip_leads flip X.flips)

-- ---- flips in turn
module _ (points : List Point) (P : ArePlaced points) where
  -- the flips that are found are a flip list
  pub turns_sound : (es : List Edge) (T : List Edge) (flips : List Flip) → IsTriangulation points T → flips_in_turn points T es ≡ Some flips → (U : List Edge) × IsFlipList points T flips U × (flipped_edges flips ≡ es)
  turns_sound [] T flips I h = let e : [] ≡ flips = cc in (T, subst (λ l. IsFlipList points T l T) e refl, subst (λ l. flipped_edges l ≡ []) e refl)
  turns_sound (e ∷ es) T flips I h = by_image (image_of points T e) refl h (λ next more K j. turns_sound es next more K j)
    where
      Found : Type 0
      Found = (U : List Edge) × IsFlipList points T flips U × (flipped_edges flips ≡ e ∷ es)

      Again : Type 0
      Again = (next : List Edge) (more : List Flip) → IsTriangulation points next → flips_in_turn points next es ≡ Some more → (U : List Edge) × IsFlipList points next more U × (flipped_edges more ≡ es)

      by_image : (r : Option Edge) → image_of points T e ≡ r
          → elim r [ Some f ↦ put_first (record { edge = e; image = f }) (flips_in_turn points (after_flip T (record { edge = e; image = f })) es) | None ↦ None ] ≡ Some flips → Again → Found
      by_image None i k _ = absurd (cc)
      by_image (Some f) i k again = by_rest (flips_in_turn points next es) refl k
        where
          flip : Flip
          flip = record { edge = e; image = f }

          next : List Edge
          next = after_flip T flip

          X : Leads points T flip next
          X = flip_leads points P T I flip (image_sound points P T I e f i)

          by_rest : (r : Option (List Flip)) → flips_in_turn points next es ≡ r → put_first flip r ≡ Some flips → Found
          by_rest None j k = absurd (cc)
          by_rest (Some more) j k = joined (again next more (flip_triangulation points P T next flip I X) j)
            where
              is : flip ∷ more ≡ flips
              is = cc

              joined : (U : List Edge) × IsFlipList points next more U × (flipped_edges more ≡ es) → Found
              joined (U, L, s) = (U, subst (λ l. IsFlipList points T l U) is (next, X, L), subst (λ l. flipped_edges l ≡ e ∷ es) is (ap (λ l. e ∷ l) s))

  -- the flips of a flip list are found
  pub turns_found : (flips : List Flip) (T U : List Edge) → IsTriangulation points T → IsFlipList points T flips U → flips_in_turn points T (flipped_edges flips) ≡ Some flips
  turns_found [] T U I h = refl
  turns_found (flip ∷ flips) T U I (next, X, L) =
      ap (λ r. elim r as (λ _. Option (List Flip)) [ Some f ↦ put_first (record { edge = flip.edge; image = f }) (flips_in_turn points (after_flip T (record { edge = flip.edge; image = f })) (flipped_edges flips)) | None ↦ None ]) (image_found points P T I flip.edge flip.image X.flips)
      ∙ ap (λ t. put_first flip (flips_in_turn points t (flipped_edges flips))) (sym (next_is points P T I flip next X))
      ∙ ap (λ r. put_first flip r) (turns_found flips next U (flip_triangulation points P T next flip I X) L)
