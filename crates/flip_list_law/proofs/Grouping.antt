-- The grouping of a flip list is a schedule: each flip joins the round of its number, and the later rounds move along.
use Rattle.std.proofs.Common.{◌≡◌, ◌≢◌, ◌⊎◌, inl, inr, ℕ, zero, suc, ◌<◌, ◌≤◌, max, Bool, true, false, cond, List, [], ◌∷◌, length, map, get_or, Contains, refl, sym, ap, ap₂, ◌∙◌, subst, subst₂, arith}
use Rattle.geo_orient.specs.declared.Point.{Point}
use Rattle.tri_theory.specs.Points.{ArePlaced}
use Rattle.edge_table.specs.declared.edge.Edge.{Edge}
use Rattle.edge_table.specs.Edges.{edge, IsAscending}
use Rattle.tri_theory.specs.Triangulations.{AreJoined, IsEmptyTriangle, IsTriangulation}
use Rattle.tri_theory.specs.Flips.{FlipsTo}
use Rattle.tri_theory.specs.Rounds.{IsSchedule}
use Rattle.flip_list_law.specs.declared.Flip.{Flip}
use Rattle.flip_list_law.specs.FlipLists.{numbers_from, Leads, IsFlipList, Triangle, triangle, one_side, other_side, makes, rounds_before, number_after, with_edge, with_edge_in, grouped_from, grouped}
use Rattle.tri_theory.proofs.Plane.{Plane}
use Rattle.tri_theory.proofs.Net.{Tri, Net}
use Rattle.tri_theory.proofs.Flip.{Quad, Swapped, Same, half_swapped, half_turn, image_tri, one_apex, turn_tri}
use Rattle.edge_table.proofs.Edges.{contains_here, edge_swap}
use Rattle.tri_theory.proofs.Edges.{edge_same, joined_swap}
use Rattle.tri_theory.proofs.Lists.{plane, tri_to, tri_from, net_of, quad_to, quad_from}
use Rattle.tri_theory.proofs.Schedules.{next_triangulation, schedule_triangulation}
use Rattle.flip_list_law.proofs.Commute.{Sides, moved_quad}
use Rattle.flip_list_law.proofs.Triangles.{triangle_turn, triangle_swap, side_of, Makes, makes_means, makes_shown, taken, made, Either}
use Rattle.flip_list_law.proofs.FlipSets.{Corners, flip_unique, flip_triangulation, flip_from, with_edge_ascending, with_edge_has, moves_round, moves_flips, joins_round, fresh, empty_round, swapped_of}

-- P holds of each round
abbrev pub EachRound : (List Edge → Type 0) → List (List Edge) → Type 0
EachRound P [] = Unit {0}
EachRound P (round ∷ rounds) = P round × EachRound P rounds

-- the edge is in each set that the schedule leads through, after the first `since` rounds; and in the last
abbrev pub Stays : (points : List Point) → ℕ → Edge → (from : List Edge) → (rounds : List (List Edge)) → (to : List Edge) → IsSchedule points from rounds to → Type 0
Stays points since e from [] to h = Contains from e
Stays points zero e from (round ∷ rounds) to h = Contains from e × Stays points zero e h.0 rounds to h.2
Stays points (suc since) e from (round ∷ rounds) to h = Stays points since e h.0 rounds to h.2

pub stays_more : (points : List Point) (since : ℕ) (e : Edge) (from : List Edge) (rounds : List (List Edge)) (to : List Edge) (h : IsSchedule points from rounds to) → Stays points since e from rounds to h → Stays points (suc since) e from rounds to h
stays_more points zero e from [] to h s = s
stays_more points (suc since) e from [] to h s = s
stays_more points zero e from (round ∷ rounds) to h s = s.1
stays_more points (suc since) e from (round ∷ rounds) to h s = stays_more points since e h.0 rounds to h.2 s

pub stays_longer : (points : List Point) (since more : ℕ) (e : Edge) (from : List Edge) (rounds : List (List Edge)) (to : List Edge) (h : IsSchedule points from rounds to) → since ≤ more → Stays points since e from rounds to h → Stays points more e from rounds to h
stays_longer points zero zero e from rounds to h l s = s
stays_longer points zero (suc more) e from rounds to h l s = stays_more points more e from rounds to h (stays_longer points zero more e from rounds to h (omega arith) s)
stays_longer points (suc since) zero e from rounds to h l s = absurd (omega arith)
stays_longer points (suc since) (suc more) e from [] to h l s = s
stays_longer points (suc since) (suc more) e from (round ∷ rounds) to h l s = stays_longer points since more e h.0 rounds to h.2 (omega arith) s

pub stays_to_end : (points : List Point) (since : ℕ) (e : Edge) (from : List Edge) (rounds : List (List Edge)) (to : List Edge) (h : IsSchedule points from rounds to) → Stays points since e from rounds to h → Contains to e
stays_to_end points zero e from [] to h s = subst (λ T. Contains T e) h s
stays_to_end points (suc since) e from [] to h s = subst (λ T. Contains T e) h s
stays_to_end points zero e from (round ∷ rounds) to h s = stays_to_end points zero e h.0 rounds to h.2 s.1
stays_to_end points (suc since) e from (round ∷ rounds) to h s = stays_to_end points since e h.0 rounds to h.2 s

-- the edge stands in the round with k others before it, and flips there to the image
abbrev pub RoundImage : (points : List Point) → ℕ → Edge → Edge → (from : List Edge) → (rounds : List (List Edge)) → (to : List Edge) → IsSchedule points from rounds to → Type 0
RoundImage points k e f from [] to h = ⊥
RoundImage points zero e f from (round ∷ rounds) to h = Contains round e × FlipsTo points from e f
RoundImage points (suc k) e f from (round ∷ rounds) to h = RoundImage points k e f h.0 rounds to h.2

module _ (points : List Point) (P : ArePlaced points) (flip : Flip) (a b c d : ℕ) (C : Corners flip a b c d) where
  abbrev S : Plane
  S = plane points P

  -- the quadrilateral's sides and diagonal stay
  abbrev pub AllStay : ℕ → (from : List Edge) → (rounds : List (List Edge)) → (to : List Edge) → IsSchedule points from rounds to → Type 0
  AllStay since from rounds to h = Sides (λ x y. Stays points since (edge x y) from rounds to h) a b c d

  quad_flips : (T : List Edge) → Quad S (AreJoined T) a b c d → FlipsTo points T flip.edge flip.image
  quad_flips T q = (a, b, c, d, C.ends, C.image_ends, quad_from points P T a b c d q)

  kept : (A A' : List Edge) (e : Edge) → Leads points A flip A' → e ≢ flip.edge → Contains A e → Contains A' e
  kept A A' e X n h = (X.members e).1 (inl (h, n))

  new : (A A' : List Edge) → Leads points A flip A' → Contains A' flip.image
  new A A' X = (X.members flip.image).1 (inr refl)

  -- what is known of a schedule made from another: it leads from one set to another, what stayed stays, and the image stays
  pub record Remade (since : ℕ) (A B : List Edge) (rounds : List (List Edge)) (h : IsSchedule points A rounds B) (A' B' : List Edge) (rounds' : List (List Edge)) : Type 0 where
    pub schedule : IsSchedule points A' rounds' B'
    pub others : (s : ℕ) (e : Edge) → e ≢ flip.edge → Stays points s e A rounds B h → Stays points s e A' rounds' B' schedule
    pub image_stays : Stays points since flip.image A' rounds' B' schedule
    pub images : (k : ℕ) (e f : Edge) → RoundImage points k e f A rounds B h → RoundImage points k e f A' rounds' B' schedule

  -- the same, where the flip has joined a round
  pub record Inserted (before : ℕ) (A B : List Edge) (rounds : List (List Edge)) (h : IsSchedule points A rounds B) (B' : List Edge) (rounds' : List (List Edge)) : Type 0 where
    pub remade : Remade (suc before) A B rounds h A B' rounds'
    pub own : RoundImage points before flip.edge flip.image A rounds' B' remade.schedule

  -- a schedule through which the quadrilateral stays, from where the flip leads
  pub moved : (A B : List Edge) (rounds : List (List Edge)) (h : IsSchedule points A rounds B) (A' B' : List Edge) → IsTriangulation points A → Quad S (AreJoined A) a b c d → AllStay zero A rounds B h → Leads points A flip A' → Leads points B flip B' → Remade zero A B rounds h A' B' rounds
  moved A B [] h A' B' I q s X Y = record {
    schedule = flip_unique points A A' B' flip X (subst (λ T. Leads points T flip B') (sym h) Y);
    others = λ t e n k. others_by t e n k;
    image_stays = new A A' X;
    images = λ k e f i. absurd i;
  }
    where
      others_by : (t : ℕ) (e : Edge) → e ≢ flip.edge → Contains A e → Contains A' e
      others_by t e n k = kept A A' e X n k
  moved A B (round ∷ rounds) (next, r, h) A' B' I q s X Y =
      by_flip (flip_from points P next flip I' (quad_flips next q')) (λ next' Z. moved next B rounds h next' B' I' q' later Z Y)
    where
      here : Sides (AreJoined next) a b c d
      here = record { ac = first rounds h s.ac.1; ab = first rounds h s.ab.1; bc = first rounds h s.bc.1; cd = first rounds h s.cd.1; da = first rounds h s.da.1 }
        where
          first : {e : Edge} (rounds : List (List Edge)) (h : IsSchedule points next rounds B) → Stays points zero e next rounds B h → Contains next e
          first [] h k = k
          first (round ∷ rounds) h k = k.0

      later : AllStay zero next rounds B h
      later = record { ac = s.ac.1; ab = s.ab.1; bc = s.bc.1; cd = s.cd.1; da = s.da.1 }

      I' : IsTriangulation points next
      I' = next_triangulation points P A round next I r

      q' : Quad S (AreJoined next) a b c d
      q' = moved_quad S (AreJoined A) (AreJoined next) (joined_swap next) q here

      by_flip : (next' : List Edge) × Leads points next flip next' → ((next' : List Edge) → Leads points next flip next' → Remade zero next B rounds h next' B' rounds) → Remade zero A B (round ∷ rounds) (next, r, h) A' B' (round ∷ rounds)
      by_flip (next', Z) again = let m = again next' Z in record {
        schedule = (next', moves_round points P A next round I r flip a b c d C q here next' Z A' X, m.schedule);
        others = λ t e n k. others_by m t e n k;
        image_stays = (new A A' X, m.image_stays);
        images = λ k e f i. images_by m k e f i;
      }
        where
          images_by : (m : Remade zero next B rounds h next' B' rounds) (k : ℕ) (e f : Edge) → RoundImage points k e f A (round ∷ rounds) B (next, r, h) → RoundImage points k e f A' (round ∷ rounds) B' (next', moves_round points P A next round I r flip a b c d C q here next' Z A' X, m.schedule)
          images_by m zero e f i = (i.0, moves_flips points P A next round I r flip a b c d C q here next' Z A' X e f i.0 i.1)
          images_by m (suc k) e f i = m.images k e f i

          others_by : (m : Remade zero next B rounds h next' B' rounds) (t : ℕ) (e : Edge) → e ≢ flip.edge → Stays points t e A (round ∷ rounds) B (next, r, h) → Stays points t e A' (round ∷ rounds) B' (next', moves_round points P A next round I r flip a b c d C q here next' Z A' X, m.schedule)
          others_by m zero e n k = (kept A A' e X n k.0, m.others zero e n k.1)
          others_by m (suc t) e n k = m.others t e n k

  -- the sides and the diagonal are in the first set, and in the second
  first_sides : (A B : List Edge) (round : List Edge) (rounds : List (List Edge)) (h : IsSchedule points A (round ∷ rounds) B) → AllStay zero A (round ∷ rounds) B h → Sides (AreJoined A) a b c d
  first_sides A B round rounds h s = record { ac = s.ac.0; ab = s.ab.0; bc = s.bc.0; cd = s.cd.0; da = s.da.0 }

  later_sides : (A B : List Edge) (round : List Edge) (rounds : List (List Edge)) (h : IsSchedule points A (round ∷ rounds) B) → AllStay zero A (round ∷ rounds) B h → AllStay zero h.0 rounds B h.2
  later_sides A B round rounds h s = record { ac = s.ac.1; ab = s.ab.1; bc = s.bc.1; cd = s.cd.1; da = s.da.1 }

  sides_now : (A B : List Edge) (rounds : List (List Edge)) (h : IsSchedule points A rounds B) → AllStay zero A rounds B h → Sides (AreJoined A) a b c d
  sides_now A B [] h s = record { ac = s.ac; ab = s.ab; bc = s.bc; cd = s.cd; da = s.da }
  sides_now A B (round ∷ rounds) h s = first_sides A B round rounds h s

  module _ (X : ℕ → ℕ → Type 0) (shape : Quad S X a b c d) where
    quad_in : (A : List Edge) → Sides (AreJoined A) a b c d → Quad S (AreJoined A) a b c d
    quad_in A s = moved_quad S X (AreJoined A) (joined_swap A) shape s

    -- the flip joins the round before which there are `before` others
    pub inserted : (before : ℕ) (A B : List Edge) (rounds : List (List Edge)) (h : IsSchedule points A rounds B) (B' : List Edge) → IsTriangulation points A → before ≤ length rounds → AllStay before A rounds B h → Leads points B flip B' → Inserted before A B rounds h B' (with_edge_in before flip.edge rounds)
    inserted zero A B [] h B' I l s Y = record {
      own = (contains_here flip.edge flip.edge [] refl, quad_flips A (quad_in A now));
      remade = record {
        schedule = (B', joins_round points P A A [] I (empty_round points P A I) flip a b c d C (quad_in A now) now B' (subst (λ T. Leads points T flip B') (sym h) Y), refl);
        others = λ t e n k. others_by t e n k;
        image_stays = new B B' Y;
        images = λ k e f i. absurd i;
      };
    }
      where
        now : Sides (AreJoined A) a b c d
        now = sides_now A B [] h s

        schedule : IsSchedule points A ((flip.edge ∷ []) ∷ []) B'
        schedule = (B', joins_round points P A A [] I (empty_round points P A I) flip a b c d C (quad_in A now) now B' (subst (λ T. Leads points T flip B') (sym h) Y), refl)

        others_by : (t : ℕ) (e : Edge) → e ≢ flip.edge → Contains A e → Stays points t e A ((flip.edge ∷ []) ∷ []) B' schedule
        others_by zero e n k = (k, kept B B' e Y n (subst (λ T. Contains T e) h k))
        others_by (suc t) e n k = kept B B' e Y n (subst (λ T. Contains T e) h k)
    inserted zero A B (round ∷ rounds) (next, r, h) B' I l s Y = by_flip (flip_from points P next flip I' (quad_flips next q'))
      where
        now : Sides (AreJoined A) a b c d
        now = first_sides A B round rounds (next, r, h) s

        later : AllStay zero next rounds B h
        later = later_sides A B round rounds (next, r, h) s

        then : Sides (AreJoined next) a b c d
        then = sides_now next B rounds h later

        I' : IsTriangulation points next
        I' = next_triangulation points P A round next I r

        q' : Quad S (AreJoined next) a b c d
        q' = quad_in next then

        by_flip : (next' : List Edge) × Leads points next flip next' → Inserted zero A B (round ∷ rounds) (next, r, h) B' (with_edge flip.edge round ∷ rounds)
        by_flip (next', Z) = let m = moved next B rounds h next' B' I' q' later Z Y in record {
          own = (with_edge_has flip.edge flip.edge round (inl refl), quad_flips A (quad_in A now));
          remade = record {
            schedule = (next', joins_round points P A next round I r flip a b c d C (quad_in A now) then next' Z, m.schedule);
            others = λ t e n k. others_by m t e n k;
            image_stays = m.image_stays;
            images = λ k e f i. images_by m k e f i;
          };
        }
          where
            images_by : (m : Remade zero next B rounds h next' B' rounds) (k : ℕ) (e f : Edge) → RoundImage points k e f A (round ∷ rounds) B (next, r, h) → RoundImage points k e f A (with_edge flip.edge round ∷ rounds) B' (next', joins_round points P A next round I r flip a b c d C (quad_in A now) then next' Z, m.schedule)
            images_by m zero e f i = (with_edge_has flip.edge e round (inr i.0), i.1)
            images_by m (suc k) e f i = m.images k e f i

            others_by : (m : Remade zero next B rounds h next' B' rounds) (t : ℕ) (e : Edge) → e ≢ flip.edge → Stays points t e A (round ∷ rounds) B (next, r, h) → Stays points t e A (with_edge flip.edge round ∷ rounds) B' (next', joins_round points P A next round I r flip a b c d C (quad_in A now) then next' Z, m.schedule)
            others_by m zero e n k = (k.0, m.others zero e n k.1)
            others_by m (suc t) e n k = m.others t e n k
    inserted (suc before) A B [] h B' I l s Y = absurd (omega arith)
    inserted (suc before) A B (round ∷ rounds) (next, r, h) B' I l s Y =
        let n = inserted before next B rounds h B' (next_triangulation points P A round next I r) (omega arith) (record { ac = s.ac; ab = s.ab; bc = s.bc; cd = s.cd; da = s.da }) Y in
        let m = n.remade in
        record { own = n.own; remade = record { schedule = (next, r, m.schedule); others = λ t e n k. others_by m t e n k; image_stays = m.image_stays; images = λ k e f i. images_by m k e f i } }
      where
        images_by : (m : Remade (suc before) next B rounds h next B' (with_edge_in before flip.edge rounds)) (k : ℕ) (e f : Edge) → RoundImage points k e f A (round ∷ rounds) B (next, r, h) → RoundImage points k e f A (round ∷ with_edge_in before flip.edge rounds) B' (next, r, m.schedule)
        images_by m zero e f i = i
        images_by m (suc k) e f i = m.images k e f i

        others_by : (m : Remade (suc before) next B rounds h next B' (with_edge_in before flip.edge rounds)) (t : ℕ) (e : Edge) → e ≢ flip.edge → Stays points t e A (round ∷ rounds) B (next, r, h) → Stays points t e A (round ∷ with_edge_in before flip.edge rounds) B' (next, r, m.schedule)
        others_by m zero e n k = (k.0, m.others zero e n k.1)
        others_by m (suc t) e n k = m.others t e n k

    -- each round stays in edge order
    pub inserted_in_order : (before : ℕ) (A B : List Edge) (rounds : List (List Edge)) (h : IsSchedule points A rounds B) → IsTriangulation points A → before ≤ length rounds → AllStay before A rounds B h → EachRound IsAscending rounds → EachRound IsAscending (with_edge_in before flip.edge rounds)
    inserted_in_order zero A B [] h I l s up = (with_edge_ascending flip.edge [] (λ i j d h k. absurd (omega arith)) (λ k. none k), tt)
      where
        none : Contains [] flip.edge → ⊥
        none (k, l, h) = omega arith
    inserted_in_order zero A B (round ∷ rounds) (next, r, h) I l s up = (with_edge_ascending flip.edge round up.0 (by_flip (flip_from points P next flip I' (quad_flips next (quad_in next then)))), up.1)
      where
        then : Sides (AreJoined next) a b c d
        then = sides_now next B rounds h (later_sides A B round rounds (next, r, h) s)

        I' : IsTriangulation points next
        I' = next_triangulation points P A round next I r

        by_flip : (next' : List Edge) × Leads points next flip next' → ¬ Contains round flip.edge
        by_flip (next', Z) = fresh points P A next round I r flip a b c d C (quad_in A (first_sides A B round rounds (next, r, h) s)) then next' Z
    inserted_in_order (suc before) A B [] h I l s up = absurd (omega arith)
    inserted_in_order (suc before) A B (round ∷ rounds) (next, r, h) I l s up =
        (up.0, inserted_in_order before next B rounds h (next_triangulation points P A round next I r) (omega arith) (record { ac = s.ac; ab = s.ab; bc = s.bc; cd = s.cd; da = s.da }) up.1)

-- the flip of e to f stands at a place and has the number
abbrev pub IsNumbered : List Flip → List ℕ → ℕ → Edge → Edge → Type 0
IsNumbered flips numbers n e f =
    (place : ℕ) × (place < length flips) × (get_or numbers place 0 ≡ n) × (get_or (map (λ (flip : Flip). flip.edge) flips) place e ≡ e) × (get_or (map (λ (flip : Flip). flip.image) flips) place f ≡ f)

abbrev pub Either3 : Edge → Edge → Edge → Edge → Type 0
Either3 e f g h = (e ≡ f) ⊎ ((e ≡ g) ⊎ (e ≡ h))

clash : (b : Bool) → b ≡ false → b ≡ true → ⊥
clash b e f = cc

-- ---- what a new triangle counts, and what the others count
pub counted : (b : Bool) (n m k : ℕ) → n ≤ k → m ≤ k → cond b n m ≤ k
counted true n m k h l = h
counted false n m k h l = l

pub length-with_edge_in : (before : ℕ) (e : Edge) (rounds : List (List Edge)) → length (with_edge_in before e rounds) ≡ max (length rounds) (suc before)
length-with_edge_in zero e [] = omega arith
length-with_edge_in zero e (round ∷ rounds) = omega arith
length-with_edge_in (suc before) e [] = let again = length-with_edge_in before e [] in omega arith
length-with_edge_in (suc before) e (round ∷ rounds) = let again = length-with_edge_in before e rounds in omega arith

-- no triangle counts more than there are rounds
abbrev pub AreBounded : (Triangle → ℕ) → ℕ → Type 0
AreBounded number_of n = (t : Triangle) → number_of t ≤ n

pub bounded_before : (number_of : Triangle → ℕ) (flip : Flip) (n : ℕ) → AreBounded number_of n → rounds_before number_of flip ≤ n
bounded_before number_of flip n up = let one = up (one_side flip) in let other = up (other_side flip) in omega arith

pub bounded_after : (number_of : Triangle → ℕ) (flip : Flip) (rounds : List (List Edge)) → AreBounded number_of (length rounds) → AreBounded (number_after number_of flip) (length (with_edge_in (rounds_before number_of flip) flip.edge rounds))
bounded_after number_of flip rounds up t =
    let long = length-with_edge_in (rounds_before number_of flip) flip.edge rounds in let here = up t in
    counted (makes flip t) (suc (rounds_before number_of flip)) (number_of t) _ (omega (arith, long)) (omega (arith, long, here))

module _ (points : List Point) (P : ArePlaced points) where
  -- a triangle stands in each set after as many rounds as it counts
  abbrev pub Stand : (Triangle → ℕ) → (from : List Edge) → (rounds : List (List Edge)) → (to : List Edge) → IsSchedule points from rounds to → Type 0
  Stand number_of from rounds to h = (x y z : ℕ) → IsEmptyTriangle points to x y z → Stays points (number_of (triangle x y z)) (edge x y) from rounds to h

  pub turn_empty : (T : List Edge) (x y z : ℕ) → IsEmptyTriangle points T x y z → IsEmptyTriangle points T y z x
  turn_empty T x y z t = tri_from points P T y z x (turn_tri (plane points P) (AreJoined T) (tri_to points P T x y z t))

  -- a triangle with the image as a side is made by the flip
  pub made_by_image : (T U : List Edge) (flip : Flip) → IsTriangulation points T → Leads points T flip U → (x y z : ℕ) → IsEmptyTriangle points U x y z → edge x y ≡ flip.image → Makes flip (triangle x y z)
  made_by_image T U flip I X x y z t e = by_flip X.flips
    where
      by_flip : FlipsTo points T flip.edge flip.image → Makes flip (triangle x y z)
      by_flip (a, b, c, d, he, hf, q) = (made flip a b c d he hf (triangle x y z)).1 (by_same (edge_same b d x y (e ∙ hf)))
        where
          S : Plane
          S = plane points P

          J : ℕ → ℕ → Type 0
          J = AreJoined T

          N : Net S J
          N = net_of points P T I

          M : Net S (AreJoined U)
          M = net_of points P U (flip_triangulation points P T U flip I X)

          p : Quad S J a b c d
          p = quad_to points P T a b c d q

          w : Swapped J (AreJoined U) a b c d
          w = swapped_of points P T U flip a b c d (record { ends = he; image_ends = hf }) X

          u : Tri S (AreJoined U) x y z
          u = tri_to points P U x y z t

          by_same : Same b d x y → (triangle x y z ≡ triangle b d a) ⊎ (triangle x y z ≡ triangle b d c)
          by_same (inl s) =
              let g = one_apex S (AreJoined U) M b d z a (subst₂ (λ i j. Tri S (AreJoined U) i j z) s.0 s.1 u) (image_tri S J (AreJoined U) N p w) in
              inl (ap₂ (λ i j. triangle i j z) s.0 s.1 ∙ ap (triangle b d) g)
          by_same (inr s) =
              let g = one_apex S (AreJoined U) M d b z c (subst₂ (λ i j. Tri S (AreJoined U) i j z) s.0 s.1 u) (image_tri S J (AreJoined U) N (half_turn S J p) (half_swapped w)) in
              inr (ap₂ (λ i j. triangle i j z) s.0 s.1 ∙ ap (triangle d b) g ∙ triangle_swap d b c)

  -- a triangle after the flip that the flip did not make stood before it
  pub stood_before : (T U : List Edge) (flip : Flip) → IsTriangulation points T → Leads points T flip U → (x y z : ℕ) → IsEmptyTriangle points U x y z → ¬ Makes flip (triangle x y z) → IsEmptyTriangle points T x y z × (edge x y ≢ flip.edge)
  stood_before T U flip I X x y z t n = (record { turns = t.turns; ab = first.0; bc = second.0; ca = third.0; empty = t.empty }, first.1)
    where
      old : (e : Edge) → (e ≢ flip.image) → (Contains T e × (e ≢ flip.edge)) ⊎ (e ≡ flip.image) → Contains T e × (e ≢ flip.edge)
      old e m (inl h) = h
      old e m (inr h) = absurd (m h)

      first : Contains T (edge x y) × (edge x y ≢ flip.edge)
      first = old (edge x y) (λ e. n (made_by_image T U flip I X x y z t e)) ((X.members (edge x y)).0 t.ab)

      second : Contains T (edge y z) × (edge y z ≢ flip.edge)
      second = old (edge y z) (λ e. n (subst (Makes flip) (sym (triangle_turn x y z)) (made_by_image T U flip I X y z x (turn_empty U x y z t) e))) ((X.members (edge y z)).0 t.bc)

      third : Contains T (edge z x) × (edge z x ≢ flip.edge)
      third = old (edge z x) (λ e. n (subst (Makes flip) (triangle_turn z x y) (made_by_image T U flip I X z x y (turn_empty U y z x (turn_empty U x y z t)) e))) ((X.members (edge z x)).0 t.ca)

  -- one flip more
  pub record OneMore (number_of : Triangle → ℕ) (flip : Flip) (A B : List Edge) (rounds : List (List Edge)) (h : IsSchedule points A rounds B) (B' : List Edge) : Type 0 where
    pub schedule : IsSchedule points A (with_edge_in (rounds_before number_of flip) flip.edge rounds) B'
    pub stand : Stand (number_after number_of flip) A (with_edge_in (rounds_before number_of flip) flip.edge rounds) B' schedule
    pub in_order : EachRound IsAscending rounds → EachRound IsAscending (with_edge_in (rounds_before number_of flip) flip.edge rounds)
    pub images : (n : ℕ) (e f : Edge) → RoundImage points n e f A rounds B h → RoundImage points n e f A (with_edge_in (rounds_before number_of flip) flip.edge rounds) B' schedule
    pub own : RoundImage points (rounds_before number_of flip) flip.edge flip.image A (with_edge_in (rounds_before number_of flip) flip.edge rounds) B' schedule

  pub one_more : (number_of : Triangle → ℕ) (flip : Flip) (A B : List Edge) (rounds : List (List Edge)) (h : IsSchedule points A rounds B) (B' : List Edge) → IsTriangulation points A → AreBounded number_of (length rounds) → Stand number_of A rounds B h → Leads points B flip B' → OneMore number_of flip A B rounds h B'
  one_more number_of flip A B rounds h B' I up stand Y = by_flip Y.flips
    where
      k : ℕ
      k = rounds_before number_of flip

      I_B : IsTriangulation points B
      I_B = schedule_triangulation points P A B rounds I h

      by_flip : FlipsTo points B flip.edge flip.image → OneMore number_of flip A B rounds h B'
      by_flip (a, b, c, d, he, hf, q) = record { schedule = m.schedule; stand = λ x y z t. by_test x y z t (makes flip (triangle x y z)) refl ((Y.members (edge x y)).0 t.ab); in_order = inserted_in_order points P flip a b c d C (AreJoined B) (quad_to points P B a b c d q) k A B rounds h I (bounded_before number_of flip (length rounds) up) all; images = m.images; own = put.own }
        where
          at_k : (x y z : ℕ) → IsEmptyTriangle points B x y z → number_of (triangle x y z) ≤ k → Stays points k (edge x y) A rounds B h
          at_k x y z t l = stays_longer points (number_of (triangle x y z)) k (edge x y) A rounds B h l (stand x y z t)

          low : Either (one_side flip) (other_side flip) (triangle a c b) (triangle a c d) → (number_of (triangle a c b) ≤ k) × (number_of (triangle a c d) ≤ k)
          low (inl s) = (subst (λ t. number_of t ≤ k) s.0 (omega arith), subst (λ t. number_of t ≤ k) s.1 (omega arith))
          low (inr s) = (subst (λ t. number_of t ≤ k) s.1 (omega arith), subst (λ t. number_of t ≤ k) s.0 (omega arith))

          both : (number_of (triangle a c b) ≤ k) × (number_of (triangle a c d) ≤ k)
          both = low (taken flip a b c d he hf)

          e1 : triangle a c b ≡ triangle a b c
          e1 = triangle_swap a c b ∙ triangle_turn c a b

          l1 : number_of (triangle a b c) ≤ k
          l1 = subst (λ t. number_of t ≤ k) e1 both.0

          l2 : number_of (triangle b c a) ≤ k
          l2 = subst (λ t. number_of t ≤ k) (triangle_turn a b c) l1

          l3 : number_of (triangle c d a) ≤ k
          l3 = subst (λ t. number_of t ≤ k) (triangle_turn a c d) both.1

          l4 : number_of (triangle d a c) ≤ k
          l4 = subst (λ t. number_of t ≤ k) (triangle_turn c d a) l3

          C : Corners flip a b c d
          C = record { ends = he; image_ends = hf }

          all : AllStay points P flip a b c d C k A rounds B h
          all = record {
            ac = at_k a c d q.left both.1;
            ab = at_k a b c q.right l1;
            bc = at_k b c a (turn_empty B a b c q.right) l2;
            cd = at_k c d a (turn_empty B a c d q.left) l3;
            da = at_k d a c (turn_empty B c d a (turn_empty B a c d q.left)) l4;
          }

          put : Inserted points P flip a b c d C k A B rounds h B' (with_edge_in k flip.edge rounds)
          put = inserted points P flip a b c d C (AreJoined B) (quad_to points P B a b c d q) k A B rounds h B' I (bounded_before number_of flip (length rounds) up) all Y

          m : Remade points P flip a b c d C (suc k) A B rounds h A B' (with_edge_in k flip.edge rounds)
          m = put.remade

          Stays' : ℕ → Edge → Type 0
          Stays' n e = Stays points n e A (with_edge_in k flip.edge rounds) B' m.schedule

          more : (e f : Edge) → e ≢ flip.edge → e ≡ f → Stays points k f A rounds B h → Stays' (suc k) e
          more e f n i s = stays_more points k e A (with_edge_in k flip.edge rounds) B' m.schedule (m.others k e n (subst (λ g. Stays points k g A rounds B h) (sym i) s))

          image_side : (e : Edge) → e ≡ flip.image → Stays' (suc k) e
          image_side e i = subst (Stays' (suc k)) (sym i) m.image_stays

          new_side : (x y : ℕ) → edge x y ≢ flip.edge → Either3 (edge x y) (edge b d) (edge d a) (edge a b) ⊎ Either3 (edge x y) (edge b d) (edge d c) (edge c b) → Stays' (suc k) (edge x y)
          new_side x y n (inl (inl i)) = image_side (edge x y) (i ∙ sym hf)
          new_side x y n (inl (inr (inl i))) = more (edge x y) (edge d a) n i all.da
          new_side x y n (inl (inr (inr i))) = more (edge x y) (edge a b) n i all.ab
          new_side x y n (inr (inl i)) = image_side (edge x y) (i ∙ sym hf)
          new_side x y n (inr (inr (inl i))) = more (edge x y) (edge c d) n (i ∙ edge_swap d c) all.cd
          new_side x y n (inr (inr (inr i))) = more (edge x y) (edge b c) n (i ∙ edge_swap c b) all.bc

          sides_by : (x y z : ℕ) → (triangle x y z ≡ triangle b d a) ⊎ (triangle x y z ≡ triangle b d c) → Either3 (edge x y) (edge b d) (edge d a) (edge a b) ⊎ Either3 (edge x y) (edge b d) (edge d c) (edge c b)
          sides_by x y z (inl i) = inl (side_of x y z b d a i)
          sides_by x y z (inr i) = inr (side_of x y z b d c i)

          by_test : (x y z : ℕ) (t : IsEmptyTriangle points B' x y z) (v : Bool) → makes flip (triangle x y z) ≡ v → (Contains B (edge x y) × (edge x y ≢ flip.edge)) ⊎ (edge x y ≡ flip.image) → Stays' (cond v (suc k) (number_of (triangle x y z))) (edge x y)
          by_test x y z t true g (inl h) = new_side x y h.1 (sides_by x y z ((made flip a b c d he hf (triangle x y z)).0 (makes_means flip (triangle x y z) g)))
          by_test x y z t true g (inr i) = image_side (edge x y) i
          by_test x y z t false g _ =
              let s = stood_before B B' flip I_B Y x y z t (λ k. clash (makes flip (triangle x y z)) g (makes_shown flip (triangle x y z) k)) in
              m.others (number_of (triangle x y z)) (edge x y) s.1 (stand x y z s.0)

  -- the grouping, from a schedule in which each triangle stands as long as it counts
  pub record Replays (number_of : Triangle → ℕ) (flips : List Flip) (A B : List Edge) (rounds : List (List Edge)) (h : IsSchedule points A rounds B) (grouping : List (List Edge)) (to : List Edge) : Type 0 where
    pub schedule : IsSchedule points A grouping to
    pub in_order : EachRound IsAscending rounds → EachRound IsAscending grouping
    pub images : (k : ℕ) (e f : Edge) → RoundImage points k e f A rounds B h → RoundImage points k e f A grouping to schedule
    pub own : (k : ℕ) (e f : Edge) → IsNumbered flips (numbers_from number_of flips) (suc k) e f → RoundImage points k e f A grouping to schedule

  pub grouped_on : (flips : List Flip) (number_of : Triangle → ℕ) (A B : List Edge) (rounds : List (List Edge)) (h : IsSchedule points A rounds B) (to : List Edge) → IsTriangulation points A → AreBounded number_of (length rounds) → Stand number_of A rounds B h → IsFlipList points B flips to → Replays number_of flips A B rounds h (grouped_from number_of rounds flips) to
  grouped_on [] number_of A B rounds h to I up stand e =
      subst (Replays number_of [] A B rounds h rounds) e (record { schedule = h; in_order = λ u. u; images = λ k e f i. i; own = λ k e f i. absurd (none k e f i) })
    where
      none : (k : ℕ) (e f : Edge) → IsNumbered [] [] (suc k) e f → ⊥
      none k e f (i, l, j, m, n) = omega arith
  grouped_on (flip ∷ flips) number_of A B rounds h to I up stand (B', Y, rest) =
      let m = one_more number_of flip A B rounds h B' I up stand Y in
      let n = grouped_on flips (number_after number_of flip) A B' (with_edge_in (rounds_before number_of flip) flip.edge rounds) m.schedule to I (bounded_after number_of flip rounds up) m.stand rest in
      record { schedule = n.schedule; in_order = λ u. n.in_order (m.in_order u); images = λ k e f i. n.images k e f (m.images k e f i); own = λ k e f i. own_by m n k e f i }
    where
      G : List (List Edge)
      G = with_edge_in (rounds_before number_of flip) flip.edge rounds

      own_by : (m : OneMore number_of flip A B rounds h B') (n : Replays (number_after number_of flip) flips A B' G m.schedule (grouped_from (number_after number_of flip) G flips) to) (k : ℕ) (e f : Edge) → IsNumbered (flip ∷ flips) (numbers_from number_of (flip ∷ flips)) (suc k) e f → RoundImage points k e f A (grouped_from (number_after number_of flip) G flips) to n.schedule
      own_by m n k e f (suc i, l, j, g, g') = n.own k e f (i, omega arith, j, g, g')
      own_by m n k e f (zero, l, j, g, g') = n.images k e f (here (rounds_before number_of flip) k flip.edge e flip.image f (omega arith) g g' m.own)
        where
          here : (b k : ℕ) (e e' f f' : Edge) → b ≡ k → e ≡ e' → f ≡ f' → RoundImage points b e f A G B' m.schedule → RoundImage points k e' f' A G B' m.schedule
          here b k e e' f f' i j l r = subst (λ f. RoundImage points k e' f A G B' m.schedule) l (subst (λ e. RoundImage points k e f A G B' m.schedule) j (subst (λ k. RoundImage points k e f A G B' m.schedule) i r))

  -- the grouping of a flip list leads where the list leads
  pub grouping_replays : (A to : List Edge) (flips : List Flip) → IsTriangulation points A → IsFlipList points A flips to → Replays (λ t. 0) flips A A [] refl (grouped flips) to
  grouping_replays A to flips I L = grouped_on flips (λ t. 0) A A [] refl to I (λ t. omega arith) (λ x y z t. t.ab) L
