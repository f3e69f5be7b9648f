-- A move of one edge lowers the total only where it is the whole last round of a list. So the first move that lowers it is found among the last moves.
use Rattle.std.proofs.Common.{◌≡◌, ◌≢◌, ◌∙◌, ◌⊎◌, inl, inr, ℕ, zero, suc, ◌+◌, ◌*◌, ◌<◌, ◌≤◌, ◌==◌, max, Bool, true, false, cond, Option, Some, None, List, [], ◌∷◌, ◌++◌, length, map, get_or, slice_get, remove, Contains, refl, sym, ap, subst, arith, eq-eqb, eqb-true}
use native.Mathlib.Decide.{dec_lt}
use Rattle.std.proofs.Math.Nat.{mul-le-mul_left}
use Rattle.std.specs.Prelude.{◌↔◌, IsTrue, find}
use Rattle.std.specs.declared.cmp.Ordering.{Ordering}
use Rattle.std.specs.declared.cmp.Ordering.TheVariants.{Less, Equal, Greater}
use Rattle.std.specs.Ordering.{is_lt}
use Rattle.std.specs.List.{AllZip}
use Rattle.std.proofs.lemmas.List.Elements.{Contains-get_or}
use Rattle.std.proofs.lemmas.List.Kept.{AllPairs-filter}
use Rattle.std.specs.Option.{is_some}
use Rattle.geo_orient.specs.declared.Point.{Point}
use Rattle.tri_theory.specs.Points.{ArePlaced}
use Rattle.edge_table.specs.declared.edge.Edge.{Edge}
use Rattle.edge_table.specs.Edges.{IsBefore, IsAscending}
use Rattle.edge_table.specs.Order.{edge_cmp}
use Rattle.edge_table.proofs.Edges.{contains_cases}
use Rattle.edge_table.proofs.Searches.{before_by, cmp_before}
use Rattle.edge_table.proofs.Ascending.{before_joins, not_before_itself, ascending_head, ascending_tail}
use Rattle.tri_theory.specs.Triangulations.{IsTriangulation}
use Rattle.tri_theory.specs.Flips.{FlipsTo}
use Rattle.tri_theory.specs.Rounds.{weighted_sum}
use Rattle.tri_check.specs.Problems.{IsProblem}
use Rattle.flip_list_law.specs.declared.Flip.{Flip}
use Rattle.flip_list_law.specs.FlipLists.{Leads, IsFlipList, round_numbers, greatest, round_count, with_edge, images_of, last_images, undone_by, follow}
use Rattle.flip_list_law.proofs.FlipLists.{length-numbers, greatest_last}
use Rattle.flip_list_law.proofs.Proved.{flips_lead, flips_cancel}
use Rattle.plan_law.specs.Images.{image_of, flippable}
use Rattle.plan_law.specs.Plans.{Plan, IsPlanOf, plan_total, with_flip, followed_all, last_moves, lowers, first_lowering}
use Rattle.plan_law.proofs.Plans.{lowers_means}
use Rattle.plan_law.proofs.Proved.{images_are_found, flippable_edges, centres_are_triangulations}
use Rattle.plan_moves.specs.Singles.{IsLeastSingle, HasLeastSingle, ComesFirst, IsLesser, IsAlone}
use Rattle.plan_moves.proofs.Lowered.{instance_of, there, alone}

-- ---- numbers
unlike : (a b : ℕ) → a < b → (a == b) ≡ false
unlike a b l = by_test (a == b) refl
  where
    by_test : (u : Bool) → (a == b) ≡ u → (a == b) ≡ false
    by_test true h = absurd (let e = eqb-true a b h in omega arith)
    by_test false h = h

-- the greatest is the one taken out, or the greatest of the others
greatest_of : (numbers : List ℕ) (place : ℕ) → place < length numbers → greatest numbers ≡ max (get_or numbers place 0) (greatest (remove numbers place))
greatest_of [] place l = absurd (omega arith)
greatest_of (n ∷ numbers) zero l = refl
greatest_of (n ∷ numbers) (suc place) l = let h = greatest_of numbers place (omega arith) in omega arith

-- ---- the images of one number
images_above : (n : ℕ) (flips : List Flip) (numbers : List ℕ) → greatest numbers < n → images_of n flips numbers ≡ []
images_above n [] numbers l = refl
images_above n (flip ∷ flips) [] l = refl
images_above n (flip ∷ flips) (m ∷ numbers) l =
    ap (λ b. cond b (with_edge flip.image (images_of n flips numbers)) (images_of n flips numbers)) (unlike m n (omega arith)) ∙ images_above n flips numbers (omega arith)

only_image : (n : ℕ) (flips : List Flip) (numbers : List ℕ) (place : ℕ) (d : Flip) → place < length flips → place < length numbers → get_or numbers place 0 ≡ n → greatest (remove numbers place) < n → images_of n flips numbers ≡ (get_or flips place d).image ∷ []
only_image n [] numbers place d l m e g = absurd (omega arith)
only_image n (flip ∷ flips) [] place d l m e g = absurd (omega arith)
only_image n (flip ∷ flips) (k ∷ numbers) zero d l m e g =
    ap (λ b. cond b (with_edge flip.image (images_of n flips numbers)) (images_of n flips numbers)) (eq-eqb k n e) ∙ ap (with_edge flip.image) (images_above n flips numbers g)
only_image n (flip ∷ flips) (k ∷ numbers) (suc place) d l m e g =
    ap (λ b. cond b (with_edge flip.image (images_of n flips numbers)) (images_of n flips numbers)) (unlike k n (omega arith)) ∙ only_image n flips numbers place d (omega arith) (omega arith) e (omega arith)

-- ---- one list
-- where following a flip leaves fewer rounds, its edge is the whole last round
pub only_last : (points : List Point) (from to next : List Edge) (flips : List Flip) (x : Flip) → ArePlaced points → IsTriangulation points from → IsFlipList points from flips to → Leads points to x next → round_count (follow flips x) < round_count flips
    → last_images flips ≡ x.edge ∷ []
only_last points from to next flips x P I h X l = by_undone (undone_by flips x) refl l
  where
    by_undone : (place : Option ℕ) → undone_by flips x ≡ place → round_count (elim place [ Some k ↦ remove flips k | None ↦ flips ++ (x ∷ []) ]) < round_count flips → last_images flips ≡ x.edge ∷ []
    by_undone None e m = absurd (let r = greatest_last flips x in omega arith)
    by_undone (Some place) e m =
        let c = flips_cancel points from to next flips x place P I h X e in
        let long = length-numbers flips (λ t. 0) in
        let w = c.within in
        let within : place < length (round_numbers flips) = omega arith in
        let g = greatest_of (round_numbers flips) place within in
        let r : greatest (remove (round_numbers flips) place) < round_count flips = subst (λ ns. greatest ns < round_count flips) c.numbers m in
        let n : get_or (round_numbers flips) place 0 ≡ round_count flips = omega arith in
        only_image (round_count flips) flips (round_numbers flips) place x w within n r ∙ ap (λ e. e ∷ []) c.reversed.1

-- ---- all lists
module _ (points : List Point) (centre next : List Edge) (x : Flip) (P : ArePlaced points) (X : Leads points centre x next) where
  pub last_single : (inputs : List (List Edge)) (lists : List (List Flip)) (weights : List ℕ) → ((k : ℕ) → k < length inputs → IsTriangulation points (get_or inputs k [])) → AllZip (λ input flips. IsFlipList points input flips centre) inputs lists
      → weighted_sum weights (map round_count (map (λ flips. follow flips x) lists)) < weighted_sum weights (map round_count lists) → Contains (last_moves lists) (x.edge ∷ [])
  last_single [] [] weights T z l = absurd (omega arith)
  last_single [] (flips ∷ lists) weights T z l = absurd z
  last_single (input ∷ inputs) [] weights T z l = absurd z
  last_single (input ∷ inputs) (flips ∷ lists) [] T z l = absurd (omega arith)
  last_single (input ∷ inputs) (flips ∷ lists) (w ∷ weights) T z l =
      by_order (λ m. last_single inputs lists weights (λ k h. T (suc k) (omega arith)) z.1 m) (dec_lt (round_count (follow flips x)) (round_count flips))
    where
      here : (flips : List Flip) → 0 < round_count flips → last_images flips ≡ x.edge ∷ [] → Contains (last_moves (flips ∷ lists)) (x.edge ∷ [])
      here [] m e = absurd (omega arith)
      here (flip ∷ flips) m e = (0, omega arith, e)

      later : (flips : List Flip) → Contains (last_moves lists) (x.edge ∷ []) → Contains (last_moves (flips ∷ lists)) (x.edge ∷ [])
      later [] c = c
      later (flip ∷ flips) (k, m, e) = (suc k, omega arith, e)

      by_order : (weighted_sum weights (map round_count (map (λ flips. follow flips x) lists)) < weighted_sum weights (map round_count lists) → Contains (last_moves lists) (x.edge ∷ [])) → Dec (round_count (follow flips x) < round_count flips)
          → Contains (last_moves (flips ∷ lists)) (x.edge ∷ [])
      by_order again (yes m) = here flips (omega arith) (only_last points input centre next flips x P (T 0 (omega arith)) z.0 X m)
      by_order again (no n) = let h : w * round_count flips ≤ w * round_count (follow flips x) = mul-le-mul_left w (omega arith) in later flips (again (omega arith))

-- ---- a plan
-- an edge that lowers the total alone is a last move alone, and one of those that flip
pub record IsLast (points : List Point) (plan : Plan) (e : Edge) : Type 0 where
  pub move : Contains (last_moves plan.lists) (e ∷ [])
  pub flips : Contains (flippable points plan.centre) e

module _ (points : List Point) (inputs : List (List Edge)) (plan : Plan) (I : IsProblem points inputs) (h : IsPlanOf points inputs plan) where
  triangulated : IsTriangulation points plan.centre
  triangulated = centres_are_triangulations points inputs plan (instance_of points inputs I) h

  pub lowers_last : (e : Edge) → lowers points plan (e ∷ []) ≡ true → IsLast points plan e
  lowers_last e t = by_next (lowers_means points plan (e ∷ []) t)
    where
      by_flip : (f : Edge) → FlipsTo points plan.centre e f → plan_total (with_flip plan (record { edge = e; image = f })) < plan_total plan → IsLast points plan e
      by_flip f F l =
          let lead = flips_lead points plan.centre (record { edge = e; image = f }) I.placed triangulated F in
          record {
            move = last_single points plan.centre lead.0 (record { edge = e; image = f }) I.placed lead.1 inputs plan.lists plan.weights (λ k m. I.triangulated (get_or inputs k []) (Contains-get_or inputs k [] m)) h.lead l;
            flips = (flippable_edges points plan.centre e I.placed triangulated).1 (f, F);
          }

      by_image : (next : Plan) → plan_total next < plan_total plan → (r : Option Edge) → image_of points plan.centre e ≡ r
          → elim (elim r as (λ _. Option Plan) [ Some f ↦ Some (with_flip plan (record { edge = e; image = f })) | None ↦ None ]) as (λ _. Option Plan) [ Some q ↦ Some q | None ↦ None ] ≡ Some next → IsLast points plan e
      by_image next l None i k = absurd (cc)
      by_image next l (Some f) i k =
          let same : with_flip plan (record { edge = e; image = f }) ≡ next = cc in
          by_flip f ((images_are_found points plan.centre e f I.placed triangulated).0 i) (subst (λ q. plan_total q < plan_total plan) (sym same) l)

      by_next : (next : Plan) × (followed_all points plan (e ∷ []) ≡ Some next) × (plan_total next < plan_total plan) → IsLast points plan e
      by_next (next, k, l) = by_image next l (image_of points plan.centre e) refl k

-- ---- the first move that lowers the total
-- the first edge of some is found, where it passes and none before it does
find_single : (test : List Edge → Bool) (e : Edge) (es : List Edge) (more : List (List Edge)) → IsAscending es → Contains es e → test (e ∷ []) ≡ true → ((f : Edge) → test (f ∷ []) ≡ true → ¬ IsBefore f e)
    → find test (map (λ f. f ∷ []) es ++ more) ≡ Some (e ∷ [])
find_single test e [] more A (k, l, i) t n = absurd (omega arith)
find_single test e (f ∷ es) more A c t n = by_place (contains_cases e f es c) (λ d. find_single test e es more (ascending_tail f es A) d t n)
  where
    by_test : (b : Bool) → test (f ∷ []) ≡ b → Contains es e → find test (map (λ f. f ∷ []) es ++ more) ≡ Some (e ∷ []) → cond b (Some (f ∷ [])) (find test (map (λ f. f ∷ []) es ++ more)) ≡ Some (e ∷ [])
    by_test true i d again = absurd (n f i (ascending_head f es A e d))
    by_test false i d again = again

    by_place : (f ≡ e) ⊎ Contains es e → (Contains es e → find test (map (λ f. f ∷ []) es ++ more) ≡ Some (e ∷ [])) → find test (map (λ f. f ∷ []) (f ∷ es) ++ more) ≡ Some (e ∷ [])
    by_place (inl i) again = ap (λ b. cond b (Some (f ∷ [])) (find test (map (λ f. f ∷ []) es ++ more))) (ap (λ g. test (g ∷ [])) i ∙ t) ∙ ap (λ g. Some (g ∷ [])) i
    by_place (inr d) again = by_test (test (f ∷ [])) refl d (again d)

-- none of some edges passes
find_past : (test : List Edge → Bool) (es : List Edge) (more : List (List Edge)) → ((f : Edge) → test (f ∷ []) ≢ true) → find test (map (λ f. f ∷ []) es ++ more) ≡ find test more
find_past test [] more n = refl
find_past test (f ∷ es) more n = by_test (test (f ∷ [])) refl (find_past test es more n)
  where
    by_test : (b : Bool) → test (f ∷ []) ≡ b → find test (map (λ f. f ∷ []) es ++ more) ≡ find test more → cond b (Some (f ∷ [])) (find test (map (λ f. f ∷ []) es ++ more)) ≡ find test more
    by_test true i again = absurd (n f i)
    by_test false i again = again

module _ (points : List Point) (inputs : List (List Edge)) (plan : Plan) (I : IsProblem points inputs) (h : IsPlanOf points inputs plan) where
  ascending : IsAscending (flippable points plan.centre)
  ascending = let T = triangulated points inputs plan I h in AllPairs-filter IsBefore (λ e. is_some (image_of points plan.centre e)) plan.centre T.ascending

  -- an edge that lowers the total alone has a place among the last moves
  place_of : (f : Edge) → lowers points plan (f ∷ []) ≡ true → (k : ℕ) × (k < length (last_moves plan.lists)) × (slice_get (last_moves plan.lists) k ≡ Some (f ∷ []))
  place_of f t = by_move ((lowers_last points inputs plan I h f t).move)
    where
      by_move : Contains (last_moves plan.lists) (f ∷ []) → (k : ℕ) × (k < length (last_moves plan.lists)) × (slice_get (last_moves plan.lists) k ≡ Some (f ∷ []))
      by_move (k, l, e) = (k, l, there (last_moves plan.lists) k (f ∷ []) (f ∷ []) l e)

  -- the least edge that lowers it is the first move
  pub first_alone : (list : List (List Edge)) (move : List Edge) → list ≡ last_moves plan.lists → IsLeastSingle (lowers points plan) list (length list) move → Some move ≡ first_lowering points plan
  first_alone list move same L =
      ap (λ m. Some m) L.alone ∙ sym (find_single (lowers points plan) L.edge (flippable points plan.centre) (last_moves plan.lists) ascending ((lowers_last points inputs plan I h L.edge L.passes).flips) L.passes none)
    where
      none : (f : Edge) → lowers points plan (f ∷ []) ≡ true → ¬ IsBefore f L.edge
      none f t b = let p = place_of f t in L.least p.0 f (subst (λ ms. p.0 < length ms) (sym same) p.1) (subst (λ ms. slice_get ms p.0 ≡ Some (f ∷ [])) (sym same) p.2) t b

  -- and where there is none, the first of the last moves that lowers it
  pub first_of_last : (list : List (List Edge)) → list ≡ last_moves plan.lists → HasLeastSingle (lowers points plan) list (length list) None → find (lowers points plan) list ≡ first_lowering points plan
  first_of_last list same N = ap (find (lowers points plan)) same ∙ sym (find_past (lowers points plan) (flippable points plan.centre) (last_moves plan.lists) none)
    where
      none : (f : Edge) → lowers points plan (f ∷ []) ≢ true
      none f t = let p = place_of f t in N p.0 f (subst (λ ms. p.0 < length ms) (sym same) p.1) (subst (λ ms. slice_get ms p.0 ≡ Some (f ∷ [])) (sym same) p.2) t

-- ---- the least of the moves of one edge
less : (r : Ordering) → is_lt r ≡ true → r ≡ Less
less Less t = refl
less Equal t = absurd (cc)
less Greater t = absurd (cc)

-- an edge against that of the move found so far
pub first_means : (e f : Edge) (found : Option (List Edge)) (edges : List Edge) (b : Bool) → found ≡ Some edges → IsAlone found → slice_get edges 0 ≡ Some f → b ≡ is_lt (edge_cmp e f) → IsTrue b ↔ ComesFirst e found
first_means e f None edges b i a s t = absurd (cc)
first_means e f (Some move) edges b i a s t = (λ u. (f, one, before_by e f (less (edge_cmp e f) (sym t ∙ u))), λ h. t ∙ ap is_lt (cmp_before e f (same h)))
  where
    one : move ≡ f ∷ []
    one = let k : move ≡ edges = cc in alone move f a (ap (λ es. slice_get es 0) k ∙ s)

    same : (g : Edge) × (move ≡ g ∷ []) × IsBefore e g → IsBefore e f
    same (g, k, h) = let m : g ≡ f = cc in subst (IsBefore e) m h

pub lesser_means : (test : List Edge → Bool) (found : Option (List Edge)) (move : List Edge) (e : Edge) (b : Bool) → length move ≡ 1 → slice_get move 0 ≡ Some e → ComesFirst e found → b ≡ test (e ∷ []) → IsTrue b ↔ IsLesser test found move
lesser_means test found move e b l s c t = (λ u. record { edge = e; alone = one; passes = sym t ∙ u; first = c }, λ h. t ∙ same h)
  where
    one : move ≡ e ∷ []
    one = alone move e l s

    same : IsLesser test found move → test (e ∷ []) ≡ true
    same h = let k : h.edge ∷ [] ≡ e ∷ [] = sym h.alone ∙ one in subst (λ m. test m ≡ true) k h.passes

-- what was found is of one edge
pub found_alone : (test : List Edge → Bool) (moves : List (List Edge)) (count : ℕ) (found : Option (List Edge)) → HasLeastSingle test moves count found → IsAlone found
found_alone test moves count (Some move) L = ap length L.alone
found_alone test moves count None N = tt

module _ (test : List Edge → Bool) (moves : List (List Edge)) (i : ℕ) (found : Option (List Edge)) (move : List Edge) (H : HasLeastSingle test moves i found) (s : slice_get moves i ≡ Some move) where
  -- one more move, which is lesser
  pub found_lesser : IsLesser test found move → IsLeastSingle test moves (i + 1) move
  found_lesser S = record { edge = S.edge; alone = S.alone; passes = S.passes; least = λ k f l t u b. by_place k f l t u b (dec_lt k i) }
    where
      before_found : (found : Option (List Edge)) → HasLeastSingle test moves i found → ComesFirst S.edge found → (k : ℕ) (f : Edge) → k < i → slice_get moves k ≡ Some (f ∷ []) → test (f ∷ []) ≡ true → ¬ IsBefore f S.edge
      before_found None N c k f l t u b = N k f l t u
      before_found (Some m) L (g, a, c) k f l t u b = let e : g ≡ L.edge = (let j : g ∷ [] ≡ L.edge ∷ [] = sym a ∙ L.alone in cc) in L.least k f l t u (before_joins f S.edge L.edge b (subst (IsBefore S.edge) e c))

      by_place : (k : ℕ) (f : Edge) → k < i + 1 → slice_get moves k ≡ Some (f ∷ []) → test (f ∷ []) ≡ true → IsBefore f S.edge → Dec (k < i) → ⊥
      by_place k f l t u b (yes m) = before_found found H S.first k f m t u b
      by_place k f l t u b (no n) =
          let e : k ≡ i = omega arith in
          let m : Some (f ∷ []) ≡ Some move = sym t ∙ (ap (slice_get moves) e ∙ s) in
          let a = S.alone in
          let g : f ≡ S.edge = cc in
          not_before_itself S.edge (subst (λ h. IsBefore h S.edge) g b)

  -- or which isn't
  pub found_still : ¬ IsLesser test found move → HasLeastSingle test moves (i + 1) found
  found_still n = by_found found H n
    where
      at_place : (k : ℕ) (f : Edge) → k < i + 1 → ¬ (k < i) → slice_get moves k ≡ Some (f ∷ []) → move ≡ f ∷ []
      at_place k f l m t = let e : k ≡ i = omega arith in let j : Some move ≡ Some (f ∷ []) = sym s ∙ (ap (slice_get moves) (sym e) ∙ t) in cc

      by_found : (found : Option (List Edge)) → HasLeastSingle test moves i found → ¬ IsLesser test found move → HasLeastSingle test moves (i + 1) found
      by_found None N n = λ k f l t u. by_place k f l t u (dec_lt k i)
        where
          by_place : (k : ℕ) (f : Edge) → k < i + 1 → slice_get moves k ≡ Some (f ∷ []) → test (f ∷ []) ≡ true → Dec (k < i) → ⊥
          by_place k f l t u (yes m) = N k f m t u
          by_place k f l t u (no m) = n (record { edge = f; alone = at_place k f l m t; passes = u; first = tt })
      by_found (Some g) L n = record { edge = L.edge; alone = L.alone; passes = L.passes; least = λ k f l t u b. by_place k f l t u b (dec_lt k i) }
        where
          by_place : (k : ℕ) (f : Edge) → k < i + 1 → slice_get moves k ≡ Some (f ∷ []) → test (f ∷ []) ≡ true → IsBefore f L.edge → Dec (k < i) → ⊥
          by_place k f l t u b (yes m) = L.least k f m t u b
          by_place k f l t u b (no m) = n (record { edge = f; alone = at_place k f l m t; passes = u; first = (L.edge, L.alone, b) })
