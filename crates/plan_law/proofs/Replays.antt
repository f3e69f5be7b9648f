-- Replaying rounds finds a fault exactly where they are no schedule.
use Rattle.std.proofs.Common.{◌≡◌, ◌≢◌, ◌⊎◌, inl, inr, ℕ, zero, suc, ◌+◌, ◌<◌, Bool, true, false, cond, not, ◌||◌, Option, Some, None, Result, Ok, Err, List, [], ◌∷◌, ◌++◌, length, get_or, All, AllPairs, Contains, refl, sym, ap, ◌∙◌, subst, arith, append_assoc}
use Rattle.std.specs.Prelude.{find, Decides}
use Rattle.std.specs.List.{list_any}
use Rattle.std.proofs.lemmas.Bool.Decides.{Decides-or}
use Rattle.std.proofs.lemmas.List.{append-nil}
use Rattle.geo_orient.specs.declared.Point.{Point}
use Rattle.tri_theory.specs.Points.{ArePlaced}
use Rattle.edge_table.specs.declared.edge.Edge.{Edge}
use Rattle.edge_table.specs.Edges.{edge}
use Rattle.tri_theory.specs.Triangulations.{AreJoined, Crosses, IsEmptyTriangle, IsTriangulation}
use Rattle.tri_theory.specs.Flips.{FlipsTo, Flips}
use Rattle.tri_theory.specs.Rounds.{IsRound, IsSchedule}
use Rattle.flip_list_law.specs.declared.Flip.{Flip}
use Rattle.flip_list_law.specs.FlipLists.{Triangle, triangle, is_same, one_side, other_side, flipped_edges}
use Rattle.plan_law.specs.Images.{has_member, image_of, after_flip, after_flips}
use Rattle.plan_law.specs.Improvers.{is_free}
use Rattle.plan_law.specs.Books.{AreRoundsOf}
use Rattle.plan_law.specs.Replays.{RoundFault, NotEdge, Twice, NotConvex, SharedTriangle, shares, apart_from, tried, round_flips, replayed, SwapFault, Round, OtherEnd, end_fault, swap_fault, ReplaysAreSchedules, FaultlessRoundsLead}
use Rattle.tri_theory.proofs.Plane.{Plane}
use Rattle.tri_theory.proofs.Flip.{turn_tri}
use Rattle.edge_table.proofs.Edges.{edge_swap, contains_here, contains_later, contains_cases}
use Rattle.edge_table.proofs.Ascending.{same_members}
use Rattle.tri_theory.proofs.Lists.{plane, tri_to, tri_from, crosses_member}
use Rattle.tri_theory.proofs.Schedules.{next_triangulation, schedule_triangulation}
use Rattle.flip_list_law.proofs.Triangles.{triangle_swap, side_of, Either, taken, same_means, same_shown}
use Rattle.flip_list_law.proofs.FlipSets.{round_member_of, empty_round}
use Rattle.flip_list_law.proofs.RoundFlips.{HasNoRepeats}
use Rattle.plan_law.proofs.Images.{member_decided, image_found, image_sound, find_passes, find_listed, find_none}
use Rattle.plan_law.proofs.Improvers.{HasSide, Taking, round_of_members, take_one}

-- ---- lists
flipped-append : (F G : List Flip) → flipped_edges (F ++ G) ≡ flipped_edges F ++ flipped_edges G
flipped-append [] G = refl
flipped-append (g ∷ F) G = ap (λ l. g.edge ∷ l) (flipped-append F G)

after-append : (T : List Edge) (F G : List Flip) → after_flips T (F ++ G) ≡ after_flips (after_flips T F) G
after-append T [] G = refl
after-append T (g ∷ F) G = after-append (after_flip T g) F G

last_split : {X : Type 0} (xs : List X) (x y : X) → Contains (xs ++ (x ∷ [])) y → (x ≡ y) ⊎ Contains xs y
last_split [] x y (zero, l, h) = inl h
last_split [] x y (suc k, l, h) = absurd (omega arith)
last_split {X} (z ∷ zs) x y (zero, l, h) = inr (0, omega arith, h)
last_split {X} (z ∷ zs) x y (suc k, l, h) = later (last_split zs x y (k, omega arith, h))
  where
    later : (x ≡ y) ⊎ Contains zs y → (x ≡ y) ⊎ Contains (z ∷ zs) y
    later (inl e) = inl e
    later (inr (p, m, i)) = inr (suc p, omega arith, i)

last_join : {X : Type 0} (xs : List X) (x y : X) → (x ≡ y) ⊎ Contains xs y → Contains (xs ++ (x ∷ [])) y
last_join [] x y (inl e) = (0, omega arith, e)
last_join [] x y (inr (k, l, h)) = absurd (omega arith)
last_join {X} (z ∷ zs) x y c = by_cases c (λ d. last_join zs x y d)
  where
    shift : Contains (zs ++ (x ∷ [])) y → Contains (z ∷ (zs ++ (x ∷ []))) y
    shift (k, l, h) = (suc k, omega arith, h)

    by_cases : (x ≡ y) ⊎ Contains (z ∷ zs) y → ((x ≡ y) ⊎ Contains zs y → Contains (zs ++ (x ∷ [])) y) → Contains (z ∷ (zs ++ (x ∷ []))) y
    by_cases (inl e) again = shift (again (inl e))
    by_cases (inr (zero, l, h)) again = (0, omega arith, h)
    by_cases (inr (suc k, l, h)) again = shift (again (inr (k, omega arith, h)))

no_repeats_cons : (e : Edge) (es : List Edge) → ¬ Contains es e → HasNoRepeats es → HasNoRepeats (e ∷ es)
no_repeats_cons e es n up zero zero d h l = absurd (omega arith)
no_repeats_cons e es n up zero (suc j) d h l = λ i. n (j, omega arith, found j (omega arith) i)
  where
    found : (j : ℕ) → j < length es → e ≡ get_or es j d → get_or es j e ≡ e
    found j m i = same es j m ∙ sym i
      where
        same : (es : List Edge) (j : ℕ) → j < length es → get_or es j e ≡ get_or es j d
        same [] j m = absurd (omega arith)
        same (f ∷ es) zero m = refl
        same (f ∷ es) (suc j) m = same es j (omega arith)
no_repeats_cons e es n up (suc i) zero d h l = absurd (omega arith)
no_repeats_cons e es n up (suc i) (suc j) d h l = up i j d (omega arith) (omega arith)

repeats_head : (e : Edge) (es : List Edge) → HasNoRepeats (e ∷ es) → ¬ Contains es e
repeats_head e es up (k, l, h) = up 0 (suc k) e (omega arith) (omega arith) (sym h)

repeats_tail : (e : Edge) (es : List Edge) → HasNoRepeats (e ∷ es) → HasNoRepeats es
repeats_tail e es up i j d h k = up (suc i) (suc j) d (omega arith) (omega arith)

-- ---- free flips
abbrev pub sides_of : List Flip → List Triangle
sides_of [] = []
sides_of (g ∷ F) = one_side g ∷ other_side g ∷ sides_of F

free_of_none : (F : List Flip) (flip : Flip) → find (shares flip) F ≡ None → is_free (sides_of F) flip ≡ true
free_of_none [] flip h = refl
free_of_none (g ∷ F) flip h = by_tests (is_same (one_side g) (one_side flip) || is_same (one_side g) (other_side flip)) (is_same (other_side g) (one_side flip) || is_same (other_side g) (other_side flip)) h (λ k. free_of_none F flip k)
  where
    rest : Bool
    rest = list_any (λ t. is_same t (one_side flip) || is_same t (other_side flip)) (sides_of F)

    by_tests : (a b : Bool) → cond (a || b) (Some g) (find (shares flip) F) ≡ None → (find (shares flip) F ≡ None → not rest ≡ true) → not (a || (b || rest)) ≡ true
    by_tests true b k again = absurd (cc)
    by_tests false true k again = absurd (cc)
    by_tests false false k again = again k

module _ (points : List Point) (P : ArePlaced points) (T : List Edge) (I : IsTriangulation points T) where
  abbrev S : Plane
  S = plane points P

  -- the empty triangle at a side of a flip, from the flip's edge on
  pub side_at : (g : Flip) (t : Triangle) → FlipsTo points T g.edge g.image → HasSide g t → (x y z : ℕ) × IsEmptyTriangle points T x y z × (edge x y ≡ g.edge) × (t ≡ triangle x y z)
  side_at g t (a, b, c, d, he, hf, q) s = by_either (taken g a b c d he hf) s
    where
      turned : (x y z : ℕ) → IsEmptyTriangle points T x y z → IsEmptyTriangle points T y z x
      turned x y z t = tri_from points P T y z x (turn_tri S (AreJoined T) (tri_to points P T x y z t))

      Found : Type 0
      Found = (x y z : ℕ) × IsEmptyTriangle points T x y z × (edge x y ≡ g.edge) × (t ≡ triangle x y z)

      left : t ≡ triangle a c d → Found
      left e = (a, c, d, q.left, sym he, e)

      right : t ≡ triangle a c b → Found
      right e = (c, a, b, turned b c a (turned a b c q.right), edge_swap c a ∙ sym he, e ∙ triangle_swap a c b)

      by_either : Either (one_side g) (other_side g) (triangle a c b) (triangle a c d) → HasSide g t → Found
      by_either (inl (i, j)) (inl e) = right (e ∙ i)
      by_either (inl (i, j)) (inr e) = left (e ∙ j)
      by_either (inr (i, j)) (inl e) = left (e ∙ i)
      by_either (inr (i, j)) (inr e) = right (e ∙ j)

  -- two edges of a round have no triangle in common
  round_apart : (R U : List Edge) (flip g : Flip) (t : Triangle) → IsRound points T R U → FlipsTo points T flip.edge flip.image → FlipsTo points T g.edge g.image → Contains R flip.edge → Contains R g.edge → g.edge ≢ flip.edge → HasSide flip t → HasSide g t → ⊥
  round_apart R U flip g t K hf hg cf cg ne s s' = by_tris (side_at flip t hf s) (side_at g t hg s')
    where
      by_tris : (x y z : ℕ) × IsEmptyTriangle points T x y z × (edge x y ≡ flip.edge) × (t ≡ triangle x y z) → (x y z : ℕ) × IsEmptyTriangle points T x y z × (edge x y ≡ g.edge) × (t ≡ triangle x y z) → ⊥
      by_tris (x, y, z, u, e, i) (x', y', z', u', e', i') = by_side (side_of x' y' z' x y z (sym i' ∙ i))
        where
          turned : IsEmptyTriangle points T z x y
          turned = tri_from points P T z x y (turn_tri S (AreJoined T) (turn_tri S (AreJoined T) (tri_to points P T x y z u)))

          here : Contains R (edge x y)
          here = subst (Contains R) (sym e) cf

          by_side : (edge x' y' ≡ edge x y) ⊎ ((edge x' y' ≡ edge y z) ⊎ (edge x' y' ≡ edge z x)) → ⊥
          by_side (inl j) = ne (sym e' ∙ (j ∙ e))
          by_side (inr (inl j)) = K.apart x y z u here (subst (Contains R) (sym e' ∙ j) cg)
          by_side (inr (inr j)) = K.apart z x y turned (subst (Contains R) (sym e' ∙ j) cg) here

  shared_side : (flip g : Flip) → shares flip g ≡ true → (t : Triangle) × HasSide flip t × HasSide g t
  shared_side flip g h = by_cases (d.0 h)
    where
      Sides : Triangle → Type 0
      Sides t = (t ≡ one_side flip) ⊎ (t ≡ other_side flip)

      one : (t : Triangle) → Decides (is_same t (one_side flip) || is_same t (other_side flip)) (Sides t)
      one t = Decides-or _ _ (same_means t (one_side flip), same_shown t (one_side flip)) (same_means t (other_side flip), same_shown t (other_side flip))

      d : Decides (shares flip g) (Sides (one_side g) ⊎ Sides (other_side g))
      d = Decides-or _ _ (one (one_side g)) (one (other_side g))

      by_cases : Sides (one_side g) ⊎ Sides (other_side g) → (t : Triangle) × HasSide flip t × HasSide g t
      by_cases (inl s) = (one_side g, s, inl refl)
      by_cases (inr s) = (other_side g, s, inr refl)

  taking_last : (F : List Flip) (flip : Flip) (U : List Edge) → Taking points P T I (flip ∷ F) (one_side flip ∷ other_side flip ∷ sides_of F) U → Taking points P T I (F ++ (flip ∷ [])) (sides_of (F ++ (flip ∷ []))) U
  taking_last F flip U K = record {
    round = round_of_members points P T I (flip.edge ∷ flipped_edges F) (flipped_edges (F ++ (flip ∷ []))) U (λ e. (λ h. to e h, λ h. from e h)) K.round;
    flips = λ g c. K.flips g (cons g (last_split F flip g c));
    covers = λ g c. covered (F ++ (flip ∷ [])) g c;
  }
    where
      cons : (g : Flip) → (flip ≡ g) ⊎ Contains F g → Contains (flip ∷ F) g
      cons g (inl e) = (0, omega arith, e)
      cons g (inr (k, l, h)) = (suc k, omega arith, h)

      by_head : (e : Edge) → (flip.edge ≡ e) ⊎ Contains (flipped_edges F) e → Contains (flipped_edges F ++ (flip.edge ∷ [])) e
      by_head e c = last_join (flipped_edges F) flip.edge e c

      to : (e : Edge) → Contains (flip.edge ∷ flipped_edges F) e → Contains (flipped_edges (F ++ (flip ∷ []))) e
      to e h = subst (λ l. Contains l e) (sym (flipped-append F (flip ∷ []))) (by_head e (contains_cases e flip.edge (flipped_edges F) h))

      back : (e : Edge) → (flip.edge ≡ e) ⊎ Contains (flipped_edges F) e → Contains (flip.edge ∷ flipped_edges F) e
      back e (inl i) = contains_here e flip.edge (flipped_edges F) i
      back e (inr h) = contains_later e flip.edge (flipped_edges F) h

      from : (e : Edge) → Contains (flipped_edges (F ++ (flip ∷ []))) e → Contains (flip.edge ∷ flipped_edges F) e
      from e h = back e (last_split (flipped_edges F) flip.edge e (subst (λ l. Contains l e) (flipped-append F (flip ∷ [])) h))

      covered : (G : List Flip) (g : Flip) → Contains G g → Contains (sides_of G) (one_side g) × Contains (sides_of G) (other_side g)
      covered [] g (k, l, h) = absurd (omega arith)
      covered (f ∷ G) g (zero, l, h) = ((0, omega arith, ap one_side h), (1, omega arith, ap other_side h))
      covered (f ∷ G) g (suc k, l, h) = shift (covered G g (k, omega arith, h))
        where
          shift : Contains (sides_of G) (one_side g) × Contains (sides_of G) (other_side g) → Contains (sides_of (f ∷ G)) (one_side g) × Contains (sides_of (f ∷ G)) (other_side g)
          shift ((p, m, i), (q, n, j)) = ((suc (suc p), omega arith, i), (suc (suc q), omega arith, j))

  -- ---- one edge
  pub record Fits (F : List Flip) (e : Edge) (flip : Flip) : Type 0 where
    pub of_edge : flip.edge ≡ e
    pub flips : FlipsTo points T flip.edge flip.image
    pub fresh : ¬ Contains (flipped_edges F) e
    pub free : is_free (sides_of F) flip ≡ true

  tried_sound : (k : ℕ) (F : List Flip) (e : Edge) (flip : Flip) → tried points T k F e ≡ Ok flip → Fits F e flip
  tried_sound k F e flip h = by_member (has_member T e) h
    where
      by_shared : (f : Edge) → image_of points T e ≡ Some f → ¬ Contains (flipped_edges F) e → (r : Option Flip) → find (shares (record { edge = e; image = f })) F ≡ r
          → elim r as (λ _. Result Flip RoundFault) [ Some g ↦ Err (SharedTriangle k e g.edge) | None ↦ Ok (record { edge = e; image = f }) ] ≡ Ok flip → Fits F e flip
      by_shared f i n (Some g) s j = absurd (cc)
      by_shared f i n None s j =
          let a : (let p : Flip = record { edge = e; image = f } in p ≡ flip) = cc in
          subst (Fits F e) a (record { of_edge = refl; flips = image_sound points P T I e f i; fresh = n; free = free_of_none F (record { edge = e; image = f }) s })

      by_image : ¬ Contains (flipped_edges F) e → (r : Option Edge) → image_of points T e ≡ r → elim r as (λ _. Result Flip RoundFault) [ Some f ↦ apart_from k F (record { edge = e; image = f }) | None ↦ Err (NotConvex k e) ] ≡ Ok flip → Fits F e flip
      by_image n None i j = absurd (cc)
      by_image n (Some f) i j = by_shared f i n (find (shares (record { edge = e; image = f })) F) refl j

      by_twice : (v : Bool) → Decides v (Contains (flipped_edges F) e)
          → cond v (Err (Twice k e)) (elim (image_of points T e) as (λ _. Result Flip RoundFault) [ Some f ↦ apart_from k F (record { edge = e; image = f }) | None ↦ Err (NotConvex k e) ]) ≡ Ok flip → Fits F e flip
      by_twice true d j = absurd (cc)
      by_twice false d j = by_image (λ c. let x = d.1 c in cc) (image_of points T e) refl j

      by_member : (v : Bool)
          → cond v (cond (has_member (flipped_edges F) e) (Err (Twice k e)) (elim (image_of points T e) as (λ _. Result Flip RoundFault) [ Some f ↦ apart_from k F (record { edge = e; image = f }) | None ↦ Err (NotConvex k e) ])) (Err (NotEdge k e)) ≡ Ok flip
          → Fits F e flip
      by_member true j = by_twice (has_member (flipped_edges F) e) (member_decided (flipped_edges F) e) j
      by_member false j = absurd (cc)

  tried_found : (k : ℕ) (F : List Flip) (e f : Edge) → Contains T e → ¬ Contains (flipped_edges F) e → FlipsTo points T e f → find (shares (record { edge = e; image = f })) F ≡ None → tried points T k F e ≡ Ok (record { edge = e; image = f })
  tried_found k F e f c n h s =
      ap (λ v. cond v (cond (has_member (flipped_edges F) e) (Err (Twice k e)) (elim (image_of points T e) as (λ _. Result Flip RoundFault) [ Some f ↦ apart_from k F (record { edge = e; image = f }) | None ↦ Err (NotConvex k e) ])) (Err (NotEdge k e))) ((member_decided T e).1 c)
      ∙ (ap (λ v. cond v (Err (Twice k e)) (elim (image_of points T e) as (λ _. Result Flip RoundFault) [ Some f ↦ apart_from k F (record { edge = e; image = f }) | None ↦ Err (NotConvex k e) ])) (absent (has_member (flipped_edges F) e) (member_decided (flipped_edges F) e))
      ∙ (ap (λ r. elim r as (λ _. Result Flip RoundFault) [ Some f ↦ apart_from k F (record { edge = e; image = f }) | None ↦ Err (NotConvex k e) ]) (image_found points P T I e f h)
      ∙ ap (λ r. elim r as (λ _. Result Flip RoundFault) [ Some g ↦ Err (SharedTriangle k e g.edge) | None ↦ Ok (record { edge = e; image = f }) ]) s))
    where
      absent : (v : Bool) → Decides v (Contains (flipped_edges F) e) → v ≡ false
      absent true d = absurd (n (d.0 refl))
      absent false d = refl

  -- ---- a round
  pub record Played (F : List Flip) (es : List Edge) (G : List Flip) : Type 0 where
    pub taking : Taking points P T I G (sides_of G) (after_flips T G)
    pub edges : flipped_edges G ≡ flipped_edges F ++ es
    pub distinct : HasNoRepeats es
    pub fresh : (e : Edge) → Contains es e → ¬ Contains (flipped_edges F) e

  played_sound : (k : ℕ) (es : List Edge) (F G : List Flip) → Taking points P T I F (sides_of F) (after_flips T F) → round_flips points T k F es ≡ Ok G → Played F es G
  played_sound k [] F G K h =
      let i : F ≡ G = cc in
      record {
        taking = subst (λ F. Taking points P T I F (sides_of F) (after_flips T F)) i K;
        edges = sym (append-nil (flipped_edges F) ∙ ap flipped_edges i);
        distinct = λ i j d l m. absurd (omega arith);
        fresh = λ e (k, l, h). absurd (omega arith);
      }
  played_sound k (e ∷ es) F G K h = by_tried (tried points T k F e) refl h (λ F K h. played_sound k es F G K h)
    where
      Again : Type 0
      Again = (F : List Flip) → Taking points P T I F (sides_of F) (after_flips T F) → round_flips points T k F es ≡ Ok G → Played F es G

      by_tried : (r : Result Flip RoundFault) → tried points T k F e ≡ r → elim r as (λ _. Result (List Flip) RoundFault) [ Ok flip ↦ round_flips points T k (F ++ (flip ∷ [])) es | Err fault ↦ Err fault ] ≡ Ok G → Again → Played F (e ∷ es) G
      by_tried (Err fault) t j again = absurd (cc)
      by_tried (Ok flip) t j again = joined (again (F ++ (flip ∷ [])) K' j)
        where
          X : Fits F e flip
          X = tried_sound k F e flip t

          K' : Taking points P T I (F ++ (flip ∷ [])) (sides_of (F ++ (flip ∷ []))) (after_flips T (F ++ (flip ∷ [])))
          K' = subst (Taking points P T I (F ++ (flip ∷ [])) (sides_of (F ++ (flip ∷ [])))) (sym (after-append T F (flip ∷ [])))
              (taking_last F flip (after_flip (after_flips T F) flip) (take_one points P T I F (sides_of F) (after_flips T F) flip K X.flips X.free).1)

          listed : flipped_edges (F ++ (flip ∷ [])) ≡ flipped_edges F ++ (e ∷ [])
          listed = flipped-append F (flip ∷ []) ∙ ap (λ x. flipped_edges F ++ (x ∷ [])) X.of_edge

          joined : Played (F ++ (flip ∷ [])) es G → Played F (e ∷ es) G
          joined p = record {
            taking = p.taking;
            edges = p.edges ∙ (ap (λ l. l ++ es) listed ∙ append_assoc (flipped_edges F) (e ∷ []) es);
            distinct = no_repeats_cons e es (λ c. p.fresh e c (subst (λ l. Contains l e) (sym listed) (last_join (flipped_edges F) e e (inl refl)))) p.distinct;
            fresh = λ d c. old d (contains_cases d e es c);
          }
            where
              old : (d : Edge) → (e ≡ d) ⊎ Contains es d → ¬ Contains (flipped_edges F) d
              old d (inl i) m = X.fresh (subst (Contains (flipped_edges F)) (sym i) m)
              old d (inr c) m = p.fresh d c (subst (λ l. Contains l d) (sym listed) (last_join (flipped_edges F) e d (inr m)))

  -- a round without repeats has no fault
  played_found : (k : ℕ) (es : List Edge) (F : List Flip) (R U : List Edge) → ((g : Flip) → Contains F g → FlipsTo points T g.edge g.image) → IsRound points T R U → ((e : Edge) → Contains es e ⊎ Contains (flipped_edges F) e → Contains R e)
      → ((e : Edge) → Contains es e → ¬ Contains (flipped_edges F) e) → HasNoRepeats es → (G : List Flip) × (round_flips points T k F es ≡ Ok G)
  played_found k [] F R U K X all fresh up = (F, refl)
  played_found k (e ∷ es) F R U K X all fresh up = by_image (X.flips e here) (λ F K all fresh. played_found k es F R U K X all fresh (repeats_tail e es up))
    where
      here : Contains R e
      here = all e (inl (contains_here e e es refl))

      Again : Type 0
      Again = (F : List Flip) → ((g : Flip) → Contains F g → FlipsTo points T g.edge g.image) → ((e : Edge) → Contains es e ⊎ Contains (flipped_edges F) e → Contains R e)
          → ((e : Edge) → Contains es e → ¬ Contains (flipped_edges F) e) → (G : List Flip) × (round_flips points T k F es ≡ Ok G)

      by_image : Flips points T e → Again → (G : List Flip) × (round_flips points T k F (e ∷ es) ≡ Ok G)
      by_image (f, h) again = by_rest (again (F ++ (flip ∷ [])) K' all' fresh')
        where
          flip : Flip
          flip = record { edge = e; image = f }

          none : (r : Option Flip) → find (shares flip) F ≡ r → find (shares flip) F ≡ None
          none None s = s
          none (Some g) s = absurd (clash (shared_side flip g (find_passes (shares flip) F g s)))
            where
              there : Contains F g
              there = find_listed (shares flip) F g s

              listed : (F : List Flip) → Contains F g → Contains (flipped_edges F) g.edge
              listed [] (k, l, h) = absurd (omega arith)
              listed (x ∷ F) (zero, l, h) = contains_here g.edge x.edge (flipped_edges F) (ap (λ (x : Flip). x.edge) h)
              listed (x ∷ F) (suc k, l, h) = contains_later g.edge x.edge (flipped_edges F) (listed F (k, omega arith, h))

              clash : (t : Triangle) × HasSide flip t × HasSide g t → ⊥
              clash (t, s, s') =
                  round_apart R U flip g t X h (K g there) here (all g.edge (inr (listed F there))) (λ i. fresh e (contains_here e e es refl) (subst (Contains (flipped_edges F)) i (listed F there))) s s'

          is_tried : tried points T k F e ≡ Ok flip
          is_tried = tried_found k F e f (round_member_of points P T R U X e here) (fresh e (contains_here e e es refl)) h (none (find (shares flip) F) refl)

          K' : (g : Flip) → Contains (F ++ (flip ∷ [])) g → FlipsTo points T g.edge g.image
          K' g c = by_last (last_split F flip g c)
            where
              by_last : (flip ≡ g) ⊎ Contains F g → FlipsTo points T g.edge g.image
              by_last (inl i) = subst (λ (g : Flip). FlipsTo points T g.edge g.image) i h
              by_last (inr d) = K g d

          split : (d : Edge) → Contains (flipped_edges (F ++ (flip ∷ []))) d → (e ≡ d) ⊎ Contains (flipped_edges F) d
          split d c = last_split (flipped_edges F) e d (subst (λ l. Contains l d) (flipped-append F (flip ∷ [])) c)

          all' : (d : Edge) → Contains es d ⊎ Contains (flipped_edges (F ++ (flip ∷ []))) d → Contains R d
          all' d (inl c) = all d (inl (contains_later d e es c))
          all' d (inr c) = by_last (split d c)
            where
              by_last : (e ≡ d) ⊎ Contains (flipped_edges F) d → Contains R d
              by_last (inl i) = subst (Contains R) i here
              by_last (inr m) = all d (inr m)

          fresh' : (d : Edge) → Contains es d → ¬ Contains (flipped_edges (F ++ (flip ∷ []))) d
          fresh' d c m = by_last (split d m)
            where
              by_last : (e ≡ d) ⊎ Contains (flipped_edges F) d → ⊥
              by_last (inl i) = repeats_head e es up (subst (Contains es) (sym i) c)
              by_last (inr n) = fresh d (contains_later d e es c) n

          by_rest : (G : List Flip) × (round_flips points T k (F ++ (flip ∷ [])) es ≡ Ok G) → (G : List Flip) × (round_flips points T k F (e ∷ es) ≡ Ok G)
          by_rest (G, i) = (G, ap (λ r. elim r as (λ _. Result (List Flip) RoundFault) [ Ok flip ↦ round_flips points T k (F ++ (flip ∷ [])) es | Err fault ↦ Err fault ]) is_tried ∙ i)

  nothing_played : Taking points P T I [] [] T
  nothing_played = record { round = empty_round points P T I; flips = λ g (k, l, h). absurd (omega arith); covers = λ g (k, l, h). absurd (omega arith) }

  pub round_sound : (k : ℕ) (es : List Edge) (G : List Flip) → round_flips points T k [] es ≡ Ok G → IsRound points T es (after_flips T G) × HasNoRepeats es
  round_sound k es G h = let p = played_sound k es [] G nothing_played h in (subst (λ l. IsRound points T l (after_flips T G)) p.edges p.taking.round, p.distinct)

  pub round_found : (k : ℕ) (es U : List Edge) → IsRound points T es U → HasNoRepeats es → (G : List Flip) × (round_flips points T k [] es ≡ Ok G) × (after_flips T G ≡ U)
  round_found k es U X up = found (played_found k es [] es U (λ g (k, l, h). absurd (omega arith)) X (λ e c. left e c) (λ e c (k, l, h). omega arith) up)
    where
      left : (e : Edge) → Contains es e ⊎ Contains [] e → Contains es e
      left e (inl c) = c
      left e (inr (k, l, h)) = absurd (omega arith)

      found : (G : List Flip) × (round_flips points T k [] es ≡ Ok G) → (G : List Flip) × (round_flips points T k [] es ≡ Ok G) × (after_flips T G ≡ U)
      found (G, h) = let Y = (round_sound k es G h).0 in (G, h, same_members (after_flips T G) U Y.ascending X.ascending (λ f. (λ c. (X.members f).1 ((Y.members f).0 c), λ c. (Y.members f).1 ((X.members f).0 c))))

-- ---- rounds
module _ (points : List Point) (P : ArePlaced points) where
  all_cons : (round : List Edge) (rounds : List (List Edge)) → HasNoRepeats round → All (λ round. AllPairs ◌≢◌ round) rounds → All (λ round. AllPairs ◌≢◌ round) (round ∷ rounds)
  all_cons round rounds h k zero d l = h
  all_cons round rounds h k (suc i) d l = k i d (omega arith)

  replayed_sound : (rounds : List (List Edge)) (k : ℕ) (T to : List Edge) → IsTriangulation points T → replayed points T k rounds ≡ Ok to → AreRoundsOf points T rounds to
  replayed_sound [] k T to I h = record { distinct = λ k d l. absurd (omega arith); leads = let i : T ≡ to = cc in i }
  replayed_sound (round ∷ rounds) k T to I h = by_round (round_flips points T k [] round) refl h (λ U J g. replayed_sound rounds (k + 1) U to J g)
    where
      by_round : (r : Result (List Flip) RoundFault) → round_flips points T k [] round ≡ r → elim r as (λ _. Result (List Edge) RoundFault) [ Ok flips ↦ replayed points (after_flips T flips) (k + 1) rounds | Err fault ↦ Err fault ] ≡ Ok to
          → ((U : List Edge) → IsTriangulation points U → replayed points U (k + 1) rounds ≡ Ok to → AreRoundsOf points U rounds to) → AreRoundsOf points T (round ∷ rounds) to
      by_round (Err fault) e j again = absurd (cc)
      by_round (Ok flips) e j again =
          let s = round_sound points P T I k round flips e in
          let r = again (after_flips T flips) (next_triangulation points P T round (after_flips T flips) I s.0) j in
          record { distinct = all_cons round rounds s.1 r.distinct; leads = (after_flips T flips, s.0, r.leads) }

  replayed_found : (rounds : List (List Edge)) (k : ℕ) (T to : List Edge) → IsTriangulation points T → AreRoundsOf points T rounds to → replayed points T k rounds ≡ Ok to
  replayed_found [] k T to I R = ap Ok R.leads
  replayed_found (round ∷ rounds) k T to I R = by_leads R.leads (λ U J h. replayed_found rounds (k + 1) U to J (record { distinct = λ k d l. R.distinct (suc k) d (omega arith); leads = h }))
    where
      by_leads : (next : List Edge) × IsRound points T round next × IsSchedule points next rounds to → ((U : List Edge) → IsTriangulation points U → IsSchedule points U rounds to → replayed points U (k + 1) rounds ≡ Ok to)
          → replayed points T k (round ∷ rounds) ≡ Ok to
      by_leads (next, X, S) again = by_found (round_found points P T I k round next X (R.distinct 0 [] (omega arith)))
        where
          by_found : (G : List Flip) × (round_flips points T k [] round ≡ Ok G) × (after_flips T G ≡ next) → replayed points T k (round ∷ rounds) ≡ Ok to
          by_found (G, e, i) =
              ap (λ r. elim r as (λ _. Result (List Edge) RoundFault) [ Ok flips ↦ replayed points (after_flips T flips) (k + 1) rounds | Err fault ↦ Err fault ]) e
              ∙ (ap (λ U. replayed points U (k + 1) rounds) i ∙ again next (next_triangulation points P T round next I X) S)

pub replays_are_schedules : ReplaysAreSchedules
replays_are_schedules points edges to k rounds P I = (replayed_sound points P rounds k edges to I, replayed_found points P rounds k edges to I)

-- a triangulation whose members are all members of another is that other
pub inside : (points : List Point) → ArePlaced points → (T U : List Edge) → IsTriangulation points T → IsTriangulation points U → ((e : Edge) → Contains T e → Contains U e) → T ≡ U
inside points P T U I J h = same_members T U I.ascending J.ascending (λ e. (h e, λ c. by_test e c (has_member T e) (member_decided T e)))
  where
    by_test : (e : Edge) → Contains U e → (v : Bool) → Decides v (Contains T e) → Contains T e
    by_test e c true d = d.0 refl
    by_test e c false d = crossed (crosses_member points P T I e (J.segments e c) (λ k. let x = d.1 k in cc))
      where
        crossed : (f : Edge) × Contains T f × Crosses points e f → Contains T e
        crossed (f, k, x) = absurd (J.planar e f c (h f k) x)

end_inside : (centre end : List Edge) → end_fault centre end ≡ None → (e : Edge) → Contains end e → Contains centre e
end_inside centre end h e c = by_test (has_member centre e) (member_decided centre e) refl
  where
    by_found : (r : Option Edge) → find (λ e. not (has_member centre e)) end ≡ r → elim r as (λ _. Option SwapFault) [ Some e ↦ Some (OtherEnd e) | None ↦ None ] ≡ None → find (λ e. not (has_member centre e)) end ≡ None
    by_found None s j = s
    by_found (Some f) s j = absurd (cc)

    by_test : (v : Bool) → Decides v (Contains centre e) → has_member centre e ≡ v → Contains centre e
    by_test true d t = d.0 refl
    by_test false d t = absurd (find_none (λ e. not (has_member centre e)) end e (by_found (find (λ e. not (has_member centre e)) end) refl h) c (ap not t))

centre_faultless : (centre end : List Edge) → ((e : Edge) → Contains end e → Contains centre e) → end_fault centre end ≡ None
centre_faultless centre end h = by_found (find (λ e. not (has_member centre e)) end) refl
  where
    by_found : (r : Option Edge) → find (λ e. not (has_member centre e)) end ≡ r → elim r as (λ _. Option SwapFault) [ Some e ↦ Some (OtherEnd e) | None ↦ None ] ≡ None
    by_found None s = refl
    by_found (Some f) s = absurd (let a = find_passes (λ e. not (has_member centre e)) end f s in let b = (member_decided centre f).1 (h f (find_listed (λ e. not (has_member centre e)) end f s)) in let c : not (has_member centre f) ≡ false = ap not b in cc)

pub faultless_rounds_lead : FaultlessRoundsLead
faultless_rounds_lead points input centre rounds P I C = (λ h. to (replayed points input 0 rounds) refl h, λ R. from R)
  where
    to : (r : Result (List Edge) RoundFault) → replayed points input 0 rounds ≡ r → elim r as (λ _. Option SwapFault) [ Ok end ↦ end_fault centre end | Err fault ↦ Some (Round fault) ] ≡ None → AreRoundsOf points input rounds centre
    to (Err fault) e j = absurd (cc)
    to (Ok end) e j =
        let R = replayed_sound points P rounds 0 input end I e in
        subst (AreRoundsOf points input rounds) (inside points P end centre (schedule_triangulation points P input end rounds I R.leads) C (end_inside centre end j)) R

    from : AreRoundsOf points input rounds centre → swap_fault points input rounds centre ≡ None
    from R =
        ap (λ r. elim r as (λ _. Option SwapFault) [ Ok end ↦ end_fault centre end | Err fault ↦ Some (Round fault) ]) (replayed_found points P rounds 0 input centre I R)
        ∙ centre_faultless centre centre (λ e c. c)
