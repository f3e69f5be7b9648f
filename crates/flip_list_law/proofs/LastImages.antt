-- The images of a flip list's last round: no two flips of the round have the same image, and the images lead back from the end.
use Rattle.std.proofs.Common.{◌≡◌, ◌≢◌, ◌⊎◌, inl, inr, ◌↔◌, ℕ, zero, suc, ◌<◌, ◌≤◌, ◌==◌, eqb-true, eq-eqb, Bool, true, false, cond, List, [], ◌∷◌, length, take, map, get_or, Contains, refl, sym, ◌∙◌, subst, arith}
use Rattle.geo_orient.specs.declared.Point.{Point}
use Rattle.tri_theory.specs.Points.{ArePlaced}
use Rattle.edge_table.specs.declared.edge.Edge.{Edge}
use Rattle.edge_table.specs.Edges.{edge, IsAscending}
use Rattle.tri_theory.specs.Triangulations.{IsEmptyTriangle, IsTriangulation}
use Rattle.tri_theory.specs.Flips.{FlipsTo}
use Rattle.tri_theory.specs.Rounds.{IsRound, IsSchedule}
use Rattle.flip_list_law.specs.declared.Flip.{Flip}
use Rattle.flip_list_law.specs.FlipLists.{grouped, Leads, IsFlipList, Triangle, triangle, one_side, other_side, makes, rounds_before, number_after, numbers_from, round_numbers, greatest, round_count, with_edge, images_of, last_images}
use Rattle.edge_table.proofs.Edges.{edge_swap}
use Rattle.tri_theory.proofs.Lists.{one_image_of}
use Rattle.tri_theory.proofs.Schedules.{images, image_source, image_listed, round_back, schedule_triangulation}
use Rattle.flip_list_law.proofs.Triangles.{triangle_turn, triangle_swap, side_of, Makes, makes_means, makes_shown, taken, made, Either}
use Rattle.flip_list_law.proofs.FlipSets.{flip_triangulation, image_is_new, with_edge_cases, with_edge_has, with_edge_ascending}
use Rattle.flip_list_law.proofs.Grouping.{made_by_image, stood_before, turn_empty, RoundImage, IsNumbered, Replays, grouping_replays}
use Rattle.flip_list_law.proofs.GroupingShape.{HasNumber, length-grouped, grouped_members}

-- the image of the flip that stands at a place and has the number
abbrev pub HasImage : List Flip → List ℕ → ℕ → Edge → Type 0
HasImage flips numbers n e = (place : ℕ) × (place < length flips) × (get_or numbers place 0 ≡ n) × (get_or (map (λ (flip : Flip). flip.image) flips) place e ≡ e)

pub images_source : (n : ℕ) (flips : List Flip) (number_of : Triangle → ℕ) (e : Edge) → Contains (images_of n flips (numbers_from number_of flips)) e → HasImage flips (numbers_from number_of flips) n e
images_source n [] number_of e (k, l, h) = absurd (omega arith)
images_source n (flip ∷ flips) number_of e h = by_test (m == n) refl h (λ k. images_source n flips (number_after number_of flip) e k)
  where
    m : ℕ
    m = suc (rounds_before number_of flip)

    ms : List ℕ
    ms = numbers_from (number_after number_of flip) flips

    Found : Type 0
    Found = HasImage (flip ∷ flips) (m ∷ ms) n e

    later : HasImage flips ms n e → Found
    later (i, l, j, k) = (suc i, omega arith, j, k)

    by_cases : m ≡ n → (e ≡ flip.image) ⊎ Contains (images_of n flips ms) e → (Contains (images_of n flips ms) e → HasImage flips ms n e) → Found
    by_cases i (inl j) again = (0, omega arith, i, sym j)
    by_cases i (inr k) again = later (again k)

    by_test : (test : Bool) → (m == n) ≡ test → Contains (cond test (with_edge flip.image (images_of n flips ms)) (images_of n flips ms)) e → (Contains (images_of n flips ms) e → HasImage flips ms n e) → Found
    by_test true i k again = by_cases (eqb-true m n i) (with_edge_cases flip.image e (images_of n flips ms) k) again
    by_test false i k again = later (again k)

pub images_listed : (n : ℕ) (flips : List Flip) (number_of : Triangle → ℕ) (e : Edge) → HasImage flips (numbers_from number_of flips) n e → Contains (images_of n flips (numbers_from number_of flips)) e
images_listed n [] number_of e (i, l, j, k) = absurd (omega arith)
images_listed n (flip ∷ flips) number_of e (zero, l, j, k) = subst (λ test. Contains (cond test (with_edge flip.image rest) rest) e) (sym (eq-eqb _ n j)) (with_edge_has flip.image e rest (inl (sym k)))
  where
    rest : List Edge
    rest = images_of n flips (numbers_from (number_after number_of flip) flips)
images_listed n (flip ∷ flips) number_of e (suc i, l, j, k) = by_test (suc (rounds_before number_of flip) == n) (images_listed n flips (number_after number_of flip) e (i, omega arith, j, k))
  where
    rest : List Edge
    rest = images_of n flips (numbers_from (number_after number_of flip) flips)

    by_test : (test : Bool) → Contains rest e → Contains (cond test (with_edge flip.image rest) rest) e
    by_test true h = with_edge_has flip.image e rest (inr h)
    by_test false h = h

module _ (points : List Point) (P : ArePlaced points) where
  -- each triangle at the edge counts at least n
  abbrev Counts : (Triangle → ℕ) → List Edge → Edge → ℕ → Type 0
  Counts number_of T f n = (x y z : ℕ) → IsEmptyTriangle points T x y z → edge x y ≡ f → n ≤ number_of (triangle x y z)

  counts_image : (number_of : Triangle → ℕ) (T U : List Edge) (flip : Flip) → IsTriangulation points T → Leads points T flip U → Counts (number_after number_of flip) U flip.image (suc (rounds_before number_of flip))
  counts_image number_of T U flip I X x y z t e =
      subst (λ test. suc (rounds_before number_of flip) ≤ cond test (suc (rounds_before number_of flip)) (number_of (triangle x y z))) (sym (makes_shown flip (triangle x y z) (made_by_image points P T U flip I X x y z t e))) (omega arith)

  -- so its flip has a greater number
  counts_flip : (number_of : Triangle → ℕ) (T : List Edge) (flip : Flip) (f : Edge) (n : ℕ) → FlipsTo points T flip.edge flip.image → Counts number_of T f n → flip.edge ≡ f → n ≤ rounds_before number_of flip
  counts_flip number_of T flip f n (a, b, c, d, he, hf, q) up e = by_sides (taken flip a b c d he hf) (up a c d q.left (sym he ∙ e))
    where
      by_sides : Either (one_side flip) (other_side flip) (triangle a c b) (triangle a c d) → n ≤ number_of (triangle a c d) → n ≤ rounds_before number_of flip
      by_sides (inl s) l = let k = subst (λ t. n ≤ number_of t) (sym s.1) l in omega (arith, k)
      by_sides (inr s) l = let k = subst (λ t. n ≤ number_of t) (sym s.0) l in omega (arith, k)

  -- the other flips leave it so
  counts_on : (number_of : Triangle → ℕ) (T U : List Edge) (flip : Flip) (f : Edge) (n : ℕ) → IsTriangulation points T → Leads points T flip U → Contains T f → Counts number_of T f n → Counts (number_after number_of flip) U f n
  counts_on number_of T U flip f n I X member up x y z t e = by_test (makes flip (triangle x y z)) refl
    where
      other : (b : Bool) → b ≡ false → b ≡ true → ⊥
      other b i j = cc

      new : FlipsTo points T flip.edge flip.image → Makes flip (triangle x y z) → n ≤ suc (rounds_before number_of flip)
      new (a, b, c, d, he, hf, q) m = by_made ((made flip a b c d he hf (triangle x y z)).0 m)
        where
          turn : (x y z : ℕ) → IsEmptyTriangle points T x y z → IsEmptyTriangle points T y z x
          turn x y z t = turn_empty points P T x y z t

          Low : Type 0
          Low = (number_of (triangle a c b) ≤ rounds_before number_of flip) × (number_of (triangle a c d) ≤ rounds_before number_of flip)

          low_by : Either (one_side flip) (other_side flip) (triangle a c b) (triangle a c d) → Low
          low_by (inl s) = (subst (λ t. number_of t ≤ rounds_before number_of flip) s.0 (omega arith), subst (λ t. number_of t ≤ rounds_before number_of flip) s.1 (omega arith))
          low_by (inr s) = (subst (λ t. number_of t ≤ rounds_before number_of flip) s.1 (omega arith), subst (λ t. number_of t ≤ rounds_before number_of flip) s.0 (omega arith))

          low : Low
          low = low_by (taken flip a b c d he hf)

          enough : (x y z : ℕ) (s : Triangle) → IsEmptyTriangle points T x y z → edge x y ≡ f → triangle x y z ≡ s → number_of s ≤ rounds_before number_of flip → n ≤ suc (rounds_before number_of flip)
          enough x y z s t i j l = let k = up x y z t i in let m = subst (λ s. number_of s ≤ rounds_before number_of flip) (sym j) l in omega (arith, k, m)

          image : edge x y ≡ edge b d → n ≤ suc (rounds_before number_of flip)
          image i = absurd (image_is_new points P T flip I X.flips (subst (Contains T) (sym e ∙ i ∙ sym hf) member))

          da : edge x y ≡ edge d a → n ≤ suc (rounds_before number_of flip)
          da i = enough d a c (triangle a c d) (turn c d a (turn a c d q.left)) (sym i ∙ e) (triangle_turn d a c) low.1

          ab : edge x y ≡ edge a b → n ≤ suc (rounds_before number_of flip)
          ab i = enough a b c (triangle a c b) q.right (sym i ∙ e) (sym (triangle_swap a c b ∙ triangle_turn c a b)) low.0

          dc : edge x y ≡ edge d c → n ≤ suc (rounds_before number_of flip)
          dc i = enough c d a (triangle a c d) (turn a c d q.left) (edge_swap c d ∙ sym i ∙ e) (triangle_turn c d a ∙ triangle_turn d a c) low.1

          cb : edge x y ≡ edge c b → n ≤ suc (rounds_before number_of flip)
          cb i = enough b c a (triangle a c b) (turn a b c q.right) (edge_swap b c ∙ sym i ∙ e) (triangle_turn b c a ∙ triangle_swap c a b) low.0

          first : (edge x y ≡ edge b d) ⊎ ((edge x y ≡ edge d a) ⊎ (edge x y ≡ edge a b)) → n ≤ suc (rounds_before number_of flip)
          first (inl i) = image i
          first (inr (inl i)) = da i
          first (inr (inr i)) = ab i

          second : (edge x y ≡ edge b d) ⊎ ((edge x y ≡ edge d c) ⊎ (edge x y ≡ edge c b)) → n ≤ suc (rounds_before number_of flip)
          second (inl i) = image i
          second (inr (inl i)) = dc i
          second (inr (inr i)) = cb i

          by_made : (triangle x y z ≡ triangle b d a) ⊎ (triangle x y z ≡ triangle b d c) → n ≤ suc (rounds_before number_of flip)
          by_made (inl i) = first (side_of x y z b d a i)
          by_made (inr i) = second (side_of x y z b d c i)

      by_test : (test : Bool) → makes flip (triangle x y z) ≡ test → n ≤ cond test (suc (rounds_before number_of flip)) (number_of (triangle x y z))
      by_test true i = new X.flips (makes_means flip (triangle x y z) i)
      by_test false i = up x y z (stood_before points P T U flip I X x y z t (λ m. other (makes flip (triangle x y z)) i (makes_shown flip (triangle x y z) m))).0 e

  -- where no later flip has a greater number, the edge stays, and no later flip has it as its image
  stays_image : (flips : List Flip) (number_of : Triangle → ℕ) (T to : List Edge) (f : Edge) (n : ℕ) → IsTriangulation points T → IsFlipList points T flips to → Contains T f → Counts number_of T f n → greatest (numbers_from number_of flips) ≤ n → Contains to f × ((m : ℕ) → ¬ HasImage flips (numbers_from number_of flips) m f)
  stays_image [] number_of T to f n I e member up l = (subst (λ U. Contains U f) e member, λ m h. none m h)
    where
      none : (m : ℕ) → ¬ HasImage [] [] m f
      none m (i, k, j, g) = omega arith
  stays_image (flip ∷ flips) number_of T to f n I (next, X, h) member up l =
      let again = stays_image flips (number_after number_of flip) next to f n (flip_triangulation points P T next flip I X) h stays (counts_on number_of T next flip f n I X member up) (omega arith) in
      (again.0, λ m k. none m again.1 k)
    where
      not_edge : flip.edge ≢ f
      not_edge e = let k = counts_flip number_of T flip f n X.flips up e in omega (arith, k)

      stays : Contains next f
      stays = (X.members f).1 (inl (member, λ e. not_edge (sym e)))

      none : (m : ℕ) → ((m : ℕ) → ¬ HasImage flips (numbers_from (number_after number_of flip) flips) m f) → ¬ HasImage (flip ∷ flips) (numbers_from number_of (flip ∷ flips)) m f
      none m later (zero, k, j, g) = image_is_new points P T flip I X.flips (subst (Contains T) (sym g) member)
      none m later (suc i, k, j, g) = later m (i, omega arith, j, g)

  -- so the images of the flips with the greatest number are distinct, and stand in the end
  pub images_in_order : (flips : List Flip) (number_of : Triangle → ℕ) (T to : List Edge) (n : ℕ) → IsTriangulation points T → IsFlipList points T flips to → greatest (numbers_from number_of flips) ≤ n → IsAscending (images_of n flips (numbers_from number_of flips)) × ((e : Edge) → Contains (images_of n flips (numbers_from number_of flips)) e → Contains to e)
  images_in_order [] number_of T to n I h l = (λ i j d k m. absurd (omega arith), λ e k. none e k)
    where
      none : (e : Edge) → Contains [] e → Contains to e
      none e (k, l, i) = absurd (omega arith)
  images_in_order (flip ∷ flips) number_of T to n I (next, X, h) l =
      by_test (suc (rounds_before number_of flip) == n) refl (images_in_order flips (number_after number_of flip) next to n I' h (omega arith))
    where
      I' : IsTriangulation points next
      I' = flip_triangulation points P T next flip I X

      rest : List Edge
      rest = images_of n flips (numbers_from (number_after number_of flip) flips)

      stays : suc (rounds_before number_of flip) ≡ n → Contains to flip.image × ((m : ℕ) → ¬ HasImage flips (numbers_from (number_after number_of flip) flips) m flip.image)
      stays i = stays_image flips (number_after number_of flip) next to flip.image (suc (rounds_before number_of flip)) I' h ((X.members flip.image).1 (inr refl)) (counts_image number_of T next flip I X) (omega arith)

      in_end : suc (rounds_before number_of flip) ≡ n → ((e : Edge) → Contains rest e → Contains to e) → (e : Edge) → (e ≡ flip.image) ⊎ Contains rest e → Contains to e
      in_end i again e (inl j) = subst (Contains to) (sym j) (stays i).0
      in_end i again e (inr k) = again e k

      by_test : (test : Bool) → (suc (rounds_before number_of flip) == n) ≡ test → IsAscending rest × ((e : Edge) → Contains rest e → Contains to e) → IsAscending (cond test (with_edge flip.image rest) rest) × ((e : Edge) → Contains (cond test (with_edge flip.image rest) rest) e → Contains to e)
      by_test true i again =
          let j = eqb-true (suc (rounds_before number_of flip)) n i in
          (with_edge_ascending flip.image rest again.0 (λ k. (stays j).1 n (images_source n flips (number_after number_of flip) flip.image k)), λ e k. in_end j again.1 e (with_edge_cases flip.image e rest k))
      by_test false i again = again

-- ---- the last round of a schedule
pub record LastRound (points : List Point) (A B : List Edge) (rounds : List (List Edge)) (h : IsSchedule points A rounds B) (k : ℕ) : Type 0 where
  pub before : List Edge
  pub round : List Edge
  pub front : IsSchedule points A (take k rounds) before
  pub last : IsRound points before round B
  pub is_round : round ≡ get_or rounds k []
  pub images : (e f : Edge) → RoundImage points k e f A rounds B h → Contains round e × FlipsTo points before e f

pub last_round : (points : List Point) (rounds : List (List Edge)) (A B : List Edge) (h : IsSchedule points A rounds B) (k : ℕ) → length rounds ≡ suc k → LastRound points A B rounds h k
last_round points [] A B h k l = absurd (omega arith)
last_round points (round ∷ []) A B (next, r, e) zero l = record { before = A; round = round; front = refl; last = subst (IsRound points A round) e r; is_round = refl; images = λ e f i. i }
last_round points (round ∷ []) A B (next, r, e) (suc k) l = absurd (omega arith)
last_round points (round ∷ second ∷ rounds) A B (next, r, h) zero l = absurd (omega arith)
last_round points (round ∷ second ∷ rounds) A B (next, r, h) (suc k) l =
    let m = last_round points (second ∷ rounds) next B h k (omega arith) in
    record { before = m.before; round = m.round; front = (next, r, m.front); last = m.last; is_round = m.is_round; images = m.images }

-- a round is the same whatever way its edges are listed
listed_round : (points : List Point) (T F G U : List Edge) → ((e : Edge) → Contains F e ↔ Contains G e) → IsRound points T F U → IsRound points T G U
listed_round points T F G U is R = record {
  flips = λ e h. R.flips e ((is e).1 h);
  apart = λ a b c t h k. R.apart a b c t ((is (edge a b)).1 h) ((is (edge b c)).1 k);
  ascending = R.ascending;
  members = λ f. (λ h. to f ((R.members f).0 h), λ h. (R.members f).1 (from f h));
}
  where
    to : (f : Edge) → (Contains T f × ¬ Contains F f) ⊎ ((e : Edge) × Contains F e × FlipsTo points T e f) → (Contains T f × ¬ Contains G f) ⊎ ((e : Edge) × Contains G e × FlipsTo points T e f)
    to f (inl h) = inl (h.0, λ k. h.1 ((is f).1 k))
    to f (inr (e, h, k)) = inr (e, (is e).0 h, k)

    from : (f : Edge) → (Contains T f × ¬ Contains G f) ⊎ ((e : Edge) × Contains G e × FlipsTo points T e f) → (Contains T f × ¬ Contains F f) ⊎ ((e : Edge) × Contains F e × FlipsTo points T e f)
    from f (inl h) = inl (h.0, λ k. h.1 ((is f).0 k))
    from f (inr (e, h, k)) = inr (e, (is e).1 h, k)

-- ---- the last images lead back
place_edge : (flips : List Flip) (place : ℕ) → place < length flips → (e : Edge) × ((d : Edge) → get_or (map (λ (flip : Flip). flip.edge) flips) place d ≡ e)
place_edge [] place l = absurd (omega arith)
place_edge (flip ∷ flips) zero l = (flip.edge, λ d. refl)
place_edge (flip ∷ flips) (suc place) l = place_edge flips place (omega arith)

place_image : (flips : List Flip) (place : ℕ) → place < length flips → (e : Edge) × ((d : Edge) → get_or (map (λ (flip : Flip). flip.image) flips) place d ≡ e)
place_image [] place l = absurd (omega arith)
place_image (flip ∷ flips) zero l = (flip.image, λ d. refl)
place_image (flip ∷ flips) (suc place) l = place_image flips place (omega arith)

pub last_images_back : (points : List Point) → ArePlaced points → (A to : List Edge) (flips : List Flip) → IsTriangulation points A → IsFlipList points A flips to → (k : ℕ) → round_count flips ≡ suc k → (before : List Edge) × IsSchedule points A (take k (grouped flips)) before × IsRound points to (last_images flips) before
last_images_back points P A to flips I L k count = (m.before, m.front, listed_round points to V (last_images flips) m.before (λ g. (into g, out g)) (round_back points P m.before m.round to J m.last))
  where
    r : Replays points P (λ t. 0) flips A A [] refl (grouped flips) to
    r = grouping_replays points P A to flips I L

    m : LastRound points A to (grouped flips) r.schedule k
    m = last_round points (grouped flips) A to r.schedule k (length-grouped flips ∙ count)

    J : IsTriangulation points m.before
    J = schedule_triangulation points P A m.before (take k (grouped flips)) I m.front

    V : List Edge
    V = images points m.before m.round m.last.flips

    numbered : (e g : Edge) → IsNumbered flips (round_numbers flips) (suc k) e g → Contains m.round e × FlipsTo points m.before e g
    numbered e g i = m.images e g (r.own k e g i)

    into : (g : Edge) → Contains V g → Contains (last_images flips) g
    into g h = by_source (image_source points m.before m.round m.last.flips g h)
      where
        by_source : (e : Edge) × Contains m.round e × FlipsTo points m.before e g → Contains (last_images flips) g
        by_source (e, i, f) = by_number ((grouped_members flips k e).0 (subst (λ round. Contains round e) m.is_round i))
          where
            by_number : HasNumber flips (round_numbers flips) (suc k) e → Contains (last_images flips) g
            by_number (place, l, n, j) = by_image (place_image flips place l)
              where
                by_image : (x : Edge) × ((d : Edge) → get_or (map (λ (flip : Flip). flip.image) flips) place d ≡ x) → Contains (last_images flips) g
                by_image (x, is) =
                    let y = numbered e x (place, l, n, j, is x) in
                    let same = one_image_of points P m.before J e x g y.1 f in
                    images_listed (round_count flips) flips (λ t. 0) g (place, l, n ∙ sym count, is g ∙ same)

    out : (g : Edge) → Contains (last_images flips) g → Contains V g
    out g h = by_image (images_source (round_count flips) flips (λ t. 0) g h)
      where
        by_image : HasImage flips (round_numbers flips) (round_count flips) g → Contains V g
        by_image (place, l, n, j) = by_edge (place_edge flips place l)
          where
            by_edge : (e : Edge) × ((d : Edge) → get_or (map (λ (flip : Flip). flip.edge) flips) place d ≡ e) → Contains V g
            by_edge (e, is) =
                let y = numbered e g (place, l, n ∙ count, is e, j) in
                image_listed points P m.before m.round J m.last.flips e g y.0 y.1
