-- Edges that are followed in turn: how far they are, and which lists can't have fewer rounds then.
use Rattle.std.proofs.Common.{◌≡◌, ◌∙◌, ◌⊎◌, inl, inr, ℕ, zero, suc, ◌+◌, ◌*◌, ◌<◌, ◌≤◌, ◌==◌, eqb-true, Bool, true, false, cond, Option, Some, None, List, [], ◌∷◌, ◌++◌, length, get_or, map, slice_get, take, drop, remove, All, Contains, true≢false, refl, sym, ap, ap₂, subst, arith}
use Rattle.std.specs.Prelude.{Decides, nat_lt}
use Rattle.std.specs.List.{AllZip, list_any}
use Rattle.std.proofs.lemmas.Bool.Decides.{Decides-or}
use Rattle.std.proofs.lemmas.List.{drop_all}
use Rattle.std.proofs.lemmas.List.Elements.{All-nil, All-cons, All-head, All-tail}
use Rattle.std.proofs.lemmas.Simd.{map-map}
use Rattle.std.proofs.Math.Seq.{drop-cons}
use Rattle.geo_orient.specs.declared.Point.{Point}
use Rattle.edge_table.specs.declared.edge.Edge.{Edge}
use Rattle.edge_table.specs.Edges.{is_edge}
use Rattle.edge_table.proofs.Edges.{is_edge-Decides, contains_here, contains_later, contains_cases}
use Rattle.tri_theory.specs.Points.{ArePlaced}
use Rattle.tri_theory.specs.Triangulations.{IsTriangulation}
use Rattle.tri_theory.specs.Flips.{Flips, IsFlip}
use Rattle.tri_theory.specs.Rounds.{weighted_sum}
use Rattle.tri_theory.proofs.Proved.{flips_keep_triangulations}
use Rattle.tri_theory.proofs.Totals.{weighted_none, weighted_more}
use Rattle.tri_check.specs.Layouts.{Layout, IsTriangulated}
use Rattle.tri_check.specs.Problems.{Problem}
use Rattle.flip_list_law.specs.declared.Flip.{Flip}
use Rattle.flip_list_law.specs.FlipLists.{Leads, IsFlipList, round_numbers, greatest, round_count, with_edge, images_of, last_images, undone_by, follow}
use Rattle.flip_list_law.proofs.FlipSets.{with_edge_cases}
use Rattle.flip_list_law.proofs.Proved.{flip_lists_keep_triangulations, flips_append, flips_cancel, following_leads}
use Rattle.replay.proofs.Lists.{no_member, take_push, read_at}
use Rattle.round_pack.specs.Tracks.{FlipTrack, flip}
use Rattle.plan_law.specs.Images.{image_of, after_flip}
use Rattle.plan_law.specs.Plans.{Plan, plan_total, with_flip, followed_all, lowers}
use Rattle.plan_law.proofs.Proved.{images_are_found, flips_lead_on}
use Rattle.plan_core.specs.HeldPlans.{LeadsTo, lists_of}
use Rattle.plan_core.specs.States.{plan_of, IsHeld}
use Rattle.plan_core.specs.Steps.{IsFollowed}
use Rattle.plan_core.specs.Trials.{all_flip, flips_after, rounds_then, CanFollow}
use Rattle.plan_core.proofs.Held.{instance}

-- ---- an edge among others
pub among : (es : List Edge) (e : Edge) → Decides (list_any (λ f. is_edge f e) es) (Contains es e)
among [] e = (λ h. absurd (true≢false (sym h)), λ h. absurd (no_member e h))
among (f ∷ es) e = by_cases (Decides-or (is_edge f e) (list_any (λ g. is_edge g e) es) (is_edge-Decides f e) (among es e))
  where
    to : (f ≡ e) ⊎ Contains es e → Contains (f ∷ es) e
    to (inl h) = contains_here e f es h
    to (inr h) = contains_later e f es h

    by_cases : Decides (list_any (λ g. is_edge g e) (f ∷ es)) ((f ≡ e) ⊎ Contains es e) → Decides (list_any (λ g. is_edge g e) (f ∷ es)) (Contains (f ∷ es) e)
    by_cases d = (λ h. to (d.0 h), λ h. d.1 (contains_cases e f es h))

-- ---- one edge of several
abbrev flips_from : Option Edge → List Point → List Edge → Edge → List Edge → Bool
flips_from r points end e es = elim r as (λ _. Bool) [ Some f ↦ all_flip points (after_flip end (flip e f)) es | None ↦ false ]

abbrev list_from : Option Edge → List Point → List Edge → List Flip → Edge → List Edge → List Flip
list_from r points end flips e es = elim r as (λ _. List Flip) [ Some f ↦ flips_after points (after_flip end (flip e f)) (follow flips (flip e f)) es | None ↦ flips ]

module _ (points : List Point) (end : List Edge) (P : ArePlaced points) (I : IsTriangulation points end) where
  pub image_there : (e f : Edge) (next : List Edge) → IsFlip points end e f next → image_of points end e ≡ Some f
  image_there e f next X = (images_are_found points end e f P I).1 X.flips

  pub leads_there : (e f : Edge) (next : List Edge) → IsFlip points end e f next → next ≡ after_flip end (flip e f)
  leads_there e f next X = ((flips_lead_on points end next (flip e f) P I).0 X).1

  pub all_flip_on : (e f : Edge) (next es : List Edge) → IsFlip points end e f next → all_flip points end (e ∷ es) ≡ all_flip points next es
  all_flip_on e f next es X = ap (λ r. flips_from r points end e es) (image_there e f next X) ∙ ap (λ u. all_flip points u es) (sym (leads_there e f next X))

  pub flips_after_on : (flips : List Flip) (e f : Edge) (next es : List Edge) → IsFlip points end e f next → flips_after points end flips (e ∷ es) ≡ flips_after points next (follow flips (flip e f)) es
  flips_after_on flips e f next es X = ap (λ r. list_from r points end flips e es) (image_there e f next X) ∙ ap (λ u. flips_after points u (follow flips (flip e f)) es) (sym (leads_there e f next X))

  pub all_flip_not : (e : Edge) (es : List Edge) → ¬ Flips points end e → all_flip points end (e ∷ es) ≡ false
  all_flip_not e es n = by_image (image_of points end e) refl
    where
      by_image : (r : Option Edge) → image_of points end e ≡ r → flips_from r points end e es ≡ false
      by_image None i = refl
      by_image (Some f) i = absurd (n (f, (images_are_found points end e f P I).0 i))

  pub next_flips : (e : Edge) (es : List Edge) → all_flip points end (e ∷ es) ≡ true → Flips points end e
  next_flips e es h = by_image (image_of points end e) refl h
    where
      by_image : (r : Option Edge) → image_of points end e ≡ r → flips_from r points end e es ≡ true → Flips points end e
      by_image None i k = absurd (true≢false (sym k))
      by_image (Some f) i k = (f, (images_are_found points end e f P I).0 i)

pub next_ones : (es : List Edge) (i : ℕ) (e : Edge) → i < length es → e ≡ get_or es i e → drop i es ≡ e ∷ drop (i + 1) es
next_ones es i e h k = drop-cons es i e h ∙ (ap (λ g. g ∷ drop (suc i) es) (sym k) ∙ ap (λ n. e ∷ drop n es) later)
  where
    later : suc i ≡ i + 1
    later = omega arith

-- ---- so many edges of a mesh have flipped
pub record IsFlippedTo (es : List Edge) (i : ℕ) (points : List Point) (old : List Edge) (here : List Point) (new : List Edge) : Type 0 where
  pub of_points : here ≡ points
  pub triangulation : IsTriangulation points new
  pub goes : all_flip points new (drop i es) ≡ all_flip points old es

module _ (es : List Edge) (i : ℕ) (points : List Point) (old : List Edge) (here : List Point) (new : List Edge) (P : ArePlaced points) (W : IsFlippedTo es i points old here new) (e : Edge) (h : i < length es) (k : e ≡ get_or es i e) where
  pub mesh_stops : ¬ Flips here new e → false ≡ all_flip points old es
  mesh_stops n =
      sym (sym W.goes ∙ (ap (all_flip points new) (next_ones es i e h k) ∙ all_flip_not points new P W.triangulation e (drop (i + 1) es) (subst (λ ps. ¬ Flips ps new e) W.of_points n)))

  pub mesh_on : (there : List Point) (next : List Edge) (f : Edge) → there ≡ here → IsFlip here new e f next → IsFlippedTo es (i + 1) points old there next
  mesh_on there next f t X = record {
    of_points = t ∙ W.of_points;
    triangulation = flips_keep_triangulations points new next e f P W.triangulation Y;
    goes = sym (all_flip_on points new P W.triangulation e f next (drop (i + 1) es) Y) ∙ (ap (all_flip points new) (sym (next_ones es i e h k)) ∙ W.goes);
  }
    where
      Y : IsFlip points new e f next
      Y = subst (λ ps. IsFlip ps new e f next) W.of_points X

pub mesh_end : (es : List Edge) (i : ℕ) (points : List Point) (old : List Edge) (here : List Point) (new : List Edge) → IsFlippedTo es i points old here new → length es ≤ i → true ≡ all_flip points old es
mesh_end es i points old here new W h = sym (ap (all_flip points new) (drop_all i es h)) ∙ W.goes

-- ---- so many edges are followed in a track
pub record IsAlong (es : List Edge) (i : ℕ) (old new : FlipTrack) : Type 0 where
  pub of_points : new.points ≡ old.points
  pub end : IsTriangulation old.points new.end
  pub goes : all_flip old.points new.end (drop i es) ≡ true
  pub flips : flips_after old.points new.end new.flips (drop i es) ≡ flips_after old.points old.end old.flips es
  pub spare : old.spare ≤ new.spare + i

module _ (es : List Edge) (i : ℕ) (old new : FlipTrack) (P : ArePlaced old.points) (W : IsAlong es i old new) (e : Edge) (h : i < length es) (k : e ≡ get_or es i e) where
  pub track_flips : Flips new.points new.end e
  track_flips = subst (λ ps. Flips ps new.end e) (sym W.of_points) (next_flips old.points new.end P W.end e (drop (i + 1) es) (ap (all_flip old.points new.end) (sym (next_ones es i e h k)) ∙ W.goes))

  pub track_on : (next : FlipTrack) → IsFollowed e new next → IsAlong es (i + 1) old next
  track_on next F = record {
    of_points = F.of_points ∙ W.of_points;
    end = flips_keep_triangulations old.points new.end next.end e F.image P W.end Y;
    goes = sym (all_flip_on old.points new.end P W.end e F.image next.end (drop (i + 1) es) Y) ∙ (ap (all_flip old.points new.end) (sym (next_ones es i e h k)) ∙ W.goes);
    flips =
        ap (λ fs. flips_after old.points next.end fs (drop (i + 1) es)) F.flips
        ∙ (sym (flips_after_on old.points new.end P W.end new.flips e F.image next.end (drop (i + 1) es) Y)
        ∙ (ap (flips_after old.points new.end new.flips) (sym (next_ones es i e h k)) ∙ W.flips));
    spare = (let a = F.spare in let b = W.spare in omega arith);
  }
    where
      Y : IsFlip old.points new.end e F.image next.end
      Y = subst (λ ps. IsFlip ps new.end e F.image next.end) W.of_points F.leads

pub track_end : (es : List Edge) (i : ℕ) (old new : FlipTrack) → IsAlong es i old new → length es ≤ i → round_count new.flips ≡ rounds_then es old
track_end es i old new W h = ap round_count (sym (ap (flips_after old.points new.end new.flips) (drop_all i es h)) ∙ W.flips)

-- ---- rounds that can't fall
-- a flip with this image has this number
abbrev pub IsKept : ℕ → Edge → List Flip → List ℕ → Type 0
IsKept n e [] ns = ⊥
IsKept n e (flip ∷ flips) [] = ⊥
IsKept n e (flip ∷ flips) (m ∷ ms) = ((m ≡ n) × (flip.image ≡ e)) ⊎ IsKept n e flips ms

kept_of : (n : ℕ) (e : Edge) (flips : List Flip) (ms : List ℕ) → Contains (images_of n flips ms) e → IsKept n e flips ms
kept_of n e [] ms h = no_member e h
kept_of n e (fl ∷ flips) [] h = no_member e h
kept_of n e (fl ∷ flips) (m ∷ ms) h = by_test (m == n) refl h (λ k. kept_of n e flips ms k)
  where
    by_test : (b : Bool) → (m == n) ≡ b → Contains (cond b (with_edge fl.image (images_of n flips ms)) (images_of n flips ms)) e → (Contains (images_of n flips ms) e → IsKept n e flips ms)
        → ((m ≡ n) × (fl.image ≡ e)) ⊎ IsKept n e flips ms
    by_test false i k again = inr (again k)
    by_test true i k again = by_cases (with_edge_cases fl.image e (images_of n flips ms) k)
      where
        by_cases : (e ≡ fl.image) ⊎ Contains (images_of n flips ms) e → ((m ≡ n) × (fl.image ≡ e)) ⊎ IsKept n e flips ms
        by_cases (inl j) = inl (eqb-true m n i, sym j)
        by_cases (inr j) = inr (again j)

kept_below : (n : ℕ) (e : Edge) (flips : List Flip) (ms : List ℕ) → IsKept n e flips ms → n ≤ greatest ms
kept_below n e [] ms h = absurd h
kept_below n e (fl ∷ flips) [] h = absurd h
kept_below n e (fl ∷ flips) (m ∷ ms) (inl h) = let i = h.0 in omega arith
kept_below n e (fl ∷ flips) (m ∷ ms) (inr h) = let again = kept_below n e flips ms h in omega arith

kept_append : (n : ℕ) (e : Edge) (flips others : List Flip) (ms ns : List ℕ) → IsKept n e flips ms → IsKept n e (flips ++ others) (ms ++ ns)
kept_append n e [] others ms ns h = absurd h
kept_append n e (fl ∷ flips) others [] ns h = absurd h
kept_append n e (fl ∷ flips) others (m ∷ ms) ns (inl h) = inl h
kept_append n e (fl ∷ flips) others (m ∷ ms) ns (inr h) = inr (kept_append n e flips others ms ns h)

kept_without : (n : ℕ) (e : Edge) (flips : List Flip) (ms : List ℕ) (place : ℕ) (d : Flip) → ¬ ((get_or flips place d).image ≡ e) → IsKept n e flips ms → IsKept n e (remove flips place) (remove ms place)
kept_without n e [] ms place d no_image h = absurd h
kept_without n e (fl ∷ flips) [] place d no_image h = absurd h
kept_without n e (fl ∷ flips) (m ∷ ms) zero d no_image (inl h) = absurd (no_image h.1)
kept_without n e (fl ∷ flips) (m ∷ ms) zero d no_image (inr h) = h
kept_without n e (fl ∷ flips) (m ∷ ms) (suc place) d no_image (inl h) = inl h
kept_without n e (fl ∷ flips) (m ∷ ms) (suc place) d no_image (inr h) = inr (kept_without n e flips ms place d no_image h)

module _ (points : List Point) (P : ArePlaced points) (from : List Edge) (A : IsTriangulation points from) (n : ℕ) (e : Edge) where
  -- following another edge keeps the flip and its number
  kept_on : (to next : List Edge) (flips : List Flip) (fl : Flip) → IsFlipList points from flips to → Leads points to fl next → ¬ (fl.edge ≡ e) → IsKept n e flips (round_numbers flips) → IsKept n e (follow flips fl) (round_numbers (follow flips fl))
  kept_on to next flips fl F X other K = by_undone (undone_by flips fl) refl
    where
      by_undone : (r : Option ℕ) → undone_by flips fl ≡ r
          → IsKept n e (elim r as (λ _. List Flip) [ Some place ↦ remove flips place | None ↦ flips ++ (fl ∷ []) ]) (round_numbers (elim r as (λ _. List Flip) [ Some place ↦ remove flips place | None ↦ flips ++ (fl ∷ []) ]))
      by_undone None i = subst (IsKept n e (flips ++ (fl ∷ []))) (sym (flips_append points from to next flips fl F X).numbers) (kept_append n e flips (fl ∷ []) (round_numbers flips) _ K)
      by_undone (Some place) i =
          let C = flips_cancel points from to next flips fl place P A F X i in
          subst (IsKept n e (remove flips place)) (sym C.numbers) (kept_without n e flips (round_numbers flips) place fl (λ j. other (sym C.reversed.1 ∙ j)) K)

  -- so its number stands in the way of fewer rounds
  never_falls : (es to : List Edge) (flips : List Flip) → IsFlipList points from flips to → all_flip points to es ≡ true → ¬ Contains es e → IsKept n e flips (round_numbers flips) → n ≤ round_count (flips_after points to flips es)
  never_falls [] to flips F h other K = kept_below n e flips (round_numbers flips) K
  never_falls (g ∷ es) to flips F h other K = by_image (image_of points to g) refl h (λ next more. never_falls es next more)
    where
      I : IsTriangulation points to
      I = flip_lists_keep_triangulations points from to flips P A F

      by_image : (r : Option Edge) → image_of points to g ≡ r → flips_from r points to g es ≡ true
          → ((next : List Edge) (more : List Flip) → IsFlipList points from more next → all_flip points next es ≡ true → ¬ Contains es e → IsKept n e more (round_numbers more) → n ≤ round_count (flips_after points next more es))
          → n ≤ round_count (list_from r points to flips g es)
      by_image None i k again = absurd (true≢false (sym k))
      by_image (Some f) i k again =
          let X : Leads points to (flip g f) (after_flip to (flip g f)) = (flips_lead_on points to (after_flip to (flip g f)) (flip g f) P I).1 ((images_are_found points to g f P I).0 i, refl) in
          again (after_flip to (flip g f)) (follow flips (flip g f)) (following_leads points from to (after_flip to (flip g f)) flips (flip g f) P A F X) k (λ c. other (contains_later e g es c))
          (kept_on to (after_flip to (flip g f)) flips (flip g f) F X (λ j. other (contains_here e g es j)) K)

-- where the last round has an image that isn't among the edges
pub not_fewer : (es : List Edge) (track : FlipTrack) (e : Edge) → CanFollow es track → Contains (last_images track.flips) e → ¬ Contains es e → round_count track.flips ≤ rounds_then es track
not_fewer es track e C c other =
    never_falls track.points C.end.placed track.start C.start (round_count track.flips) e es track.end track.flips C.led C.flips other (kept_of (round_count track.flips) e track.flips (round_numbers track.flips) c)

-- ---- a number for each of some items
pub bounds_more : {X : Type 0} (f : X → ℕ) (xs : List X) (ns : List ℕ) (i : ℕ) (x : X) (n : ℕ) → i < length xs → slice_get xs i ≡ Some x → AllZip (λ x n. n ≤ f x) (take i xs) ns → n ≤ f x → AllZip (λ x n. n ≤ f x) (take (i + 1) xs) (ns ++ n ∷ [])
bounds_more {X} f xs ns i x n l h z r = subst (λ ys. AllZip (λ x n. n ≤ f x) ys (ns ++ n ∷ [])) (sym (take_push xs i x l (read_at xs i x h))) (pushed (take i xs) ns z)
  where
    pushed : (ys : List X) (ms : List ℕ) → AllZip (λ x n. n ≤ f x) ys ms → AllZip (λ x n. n ≤ f x) (ys ++ x ∷ []) (ms ++ n ∷ [])
    pushed [] [] w = (r, tt)
    pushed [] (m ∷ ms) w = absurd w
    pushed (y ∷ ys) [] w = absurd w
    pushed (y ∷ ys) (m ∷ ms) w = (w.0, pushed ys ms w.1)

product_below : (w m n : ℕ) → m ≤ n → w * m ≤ w * n
product_below zero m n h = omega arith
product_below (suc w) m n h = let again = product_below w m n h in omega arith

pub rest_below : {X : Type 0} (f : X → ℕ) (ws : List ℕ) (xs : List X) (ns : List ℕ) (t : ℕ) → AllZip (λ x n. n ≤ f x) xs ns
    → (weighted_sum ws (take t ns) ≤ weighted_sum ws ns) × (weighted_sum ws (map f (take t xs)) + weighted_sum ws ns ≤ weighted_sum ws (map f xs) + weighted_sum ws (take t ns))
rest_below f [] xs ns t z = (omega arith, omega arith)
rest_below f (w ∷ ws) [] [] zero z = (omega arith, omega arith)
rest_below f (w ∷ ws) [] [] (suc t) z = (omega arith, omega arith)
rest_below f (w ∷ ws) [] (n ∷ ns) t z = absurd z
rest_below f (w ∷ ws) (x ∷ xs) [] t z = absurd z
rest_below f (w ∷ ws) (x ∷ xs) (n ∷ ns) zero z =
    let again = rest_below f ws xs ns zero z.1 in
    let here : w * n ≤ w * f x = product_below w n (f x) z.0 in
    let a = weighted_none ws in
    let b = again.1 in
    (omega arith, omega arith)
rest_below f (w ∷ ws) (x ∷ xs) (n ∷ ns) (suc t) z =
    let again = rest_below f ws xs ns t z.1 in
    let a = again.0 in
    let b = again.1 in
    (omega arith, omega arith)

pub numbers_more : (ws ns : List ℕ) (t n : ℕ) → slice_get ns t ≡ Some n → weighted_sum ws (take (t + 1) ns) ≡ weighted_sum ws (take t ns) + get_or ws t 0 * n
numbers_more ws ns t n h = sym (ap (weighted_sum ws) (plain (take (t + 1) ns))) ∙ (weighted_more (λ n. n) ws ns t n h ∙ ap (λ ms. weighted_sum ws ms + get_or ws t 0 * n) (plain (take t ns)))
  where
    plain : (ms : List ℕ) → map (λ n. n) ms ≡ ms
    plain [] = refl
    plain (m ∷ ms) = ap (λ ls. m ∷ ls) (plain ms)

-- ---- following in a plan
module _ (points : List Point) where
  -- a plan that has followed edges
  pub record HasFollowed (plan : Plan) (es : List Edge) : Type 0 where
    pub next : Plan
    pub found : followed_all points plan es ≡ Some next
    pub weights : next.weights ≡ plan.weights
    pub lists : next.lists ≡ map (λ flips. flips_after points plan.centre flips es) plan.lists

  each_kept : (lists : List (List Flip)) → lists ≡ map (λ flips. flips) lists
  each_kept [] = refl
  each_kept (l ∷ lists) = ap (λ ls. l ∷ ls) (each_kept lists)

  abbrev plan_from : Option Edge → Plan → Edge → List Edge → Option Plan
  plan_from r plan e es = elim (elim r as (λ _. Option Plan) [ Some f ↦ Some (with_flip plan (flip e f)) | None ↦ None ]) as (λ _. Option Plan) [ Some next ↦ followed_all points next es | None ↦ None ]

  plan_follows : (es : List Edge) (plan : Plan) → all_flip points plan.centre es ≡ true → HasFollowed plan es
  plan_follows [] plan h = record { next = plan; found = refl; weights = refl; lists = each_kept plan.lists }
  plan_follows (e ∷ es) plan h = by_image (image_of points plan.centre e) refl h (λ mid k. plan_follows es mid k)
    where
      by_image : (r : Option Edge) → image_of points plan.centre e ≡ r → flips_from r points plan.centre e es ≡ true → ((mid : Plan) → all_flip points mid.centre es ≡ true → HasFollowed mid es) → HasFollowed plan (e ∷ es)
      by_image None i k again = absurd (true≢false (sym k))
      by_image (Some f) i k again =
          let H = again (with_flip plan (flip e f)) k in
          record {
            next = H.next;
            found = ap (λ r. plan_from r plan e es) i ∙ H.found;
            weights = H.weights;
            lists =
                H.lists
                ∙ (map-map (λ flips. flips_after points (after_flip plan.centre (flip e f)) flips es) (λ flips. follow flips (flip e f)) plan.lists
                ∙ sym (ap (λ r. map (λ flips. list_from r points plan.centre flips e es) plan.lists) i));
          }

  plan_stops : (es : List Edge) (plan : Plan) → all_flip points plan.centre es ≡ false → followed_all points plan es ≡ None
  plan_stops [] plan h = absurd (true≢false h)
  plan_stops (e ∷ es) plan h = by_image (image_of points plan.centre e) refl h (λ mid k. plan_stops es mid k)
    where
      by_image : (r : Option Edge) → image_of points plan.centre e ≡ r → flips_from r points plan.centre e es ≡ false → ((mid : Plan) → all_flip points mid.centre es ≡ false → followed_all points mid es ≡ None) → followed_all points plan (e ∷ es) ≡ None
      by_image None i k again = ap (λ r. plan_from r plan e es) i
      by_image (Some f) i k again = ap (λ r. plan_from r plan e es) i ∙ again (with_flip plan (flip e f)) k

  pub lowers_not : (es : List Edge) (plan : Plan) → all_flip points plan.centre es ≡ false → false ≡ lowers points plan es
  lowers_not es plan h = sym (ap (λ r. elim r as (λ _. Bool) [ Some next ↦ nat_lt (plan_total next) (plan_total plan) | None ↦ false ]) (plan_stops es plan h))

  pub lowers_where : (es : List Edge) (plan : Plan) → all_flip points plan.centre es ≡ true → nat_lt (weighted_sum plan.weights (map round_count (map (λ flips. flips_after points plan.centre flips es) plan.lists))) (plan_total plan) ≡ lowers points plan es
  lowers_where es plan h =
      let H = plan_follows es plan h in
      sym (ap (λ r. elim r as (λ _. Bool) [ Some next ↦ nat_lt (plan_total next) (plan_total plan) | None ↦ false ]) H.found
      ∙ ap₂ (λ ws ls. nat_lt (weighted_sum ws (map round_count ls)) (plan_total plan)) H.weights H.lists)

  -- the rounds of its tracks
  pub rounds_are : (centre : List Edge) (es : List Edge) (inputs : List (List Edge)) (tracks : List FlipTrack) → AllZip (LeadsTo points centre) inputs tracks
      → map (rounds_then es) tracks ≡ map round_count (map (λ flips. flips_after points centre flips es) (lists_of tracks))
  rounds_are centre es inputs [] z = refl
  rounds_are centre es [] (y ∷ tracks) z = absurd z
  rounds_are centre es (x ∷ inputs) (y ∷ tracks) z = ap₂ ◌∷◌ (ap₂ (λ ps u. round_count (flips_after ps u y.flips es)) z.0.of_points z.0.to) (rounds_are centre es inputs tracks z.1)

  -- each of them can follow
  pub can_follow : (centre : List Edge) (es : List Edge) → IsTriangulated points centre → all_flip points centre es ≡ true → (inputs : List (List Edge)) (tracks : List FlipTrack) → AllZip (LeadsTo points centre) inputs tracks
      → AllZip (λ input flips. IsFlipList points input flips centre) inputs (lists_of tracks) → All (λ edges. IsTriangulation points edges) inputs → All (CanFollow es) tracks
  can_follow centre es I h inputs [] z led A = All-nil (CanFollow es)
  can_follow centre es I h [] (y ∷ tracks) z led A = absurd z
  can_follow centre es I h (x ∷ inputs) (y ∷ tracks) z led A =
      All-cons (CanFollow es) y tracks here (can_follow centre es I h inputs tracks z.1 led.1 (All-tail (λ edges. IsTriangulation points edges) x inputs A))
    where
      here : CanFollow es y
      here = record {
        start = subst (λ ps. IsTriangulation ps y.start) (sym z.0.of_points) (subst (IsTriangulation points) (sym z.0.from) (All-head (λ edges. IsTriangulation points edges) x inputs A));
        led = subst (λ ps. IsFlipList ps y.start y.flips y.end) (sym z.0.of_points) (subst (λ s. IsFlipList points s y.flips y.end) (sym z.0.from) (subst (IsFlipList points x y.flips) (sym z.0.to) led.0));
        end = subst (λ ps. IsTriangulated ps y.end) (sym z.0.of_points) (subst (IsTriangulated points) (sym z.0.to) I);
        flips = ap₂ (λ ps u. all_flip ps u es) z.0.of_points z.0.to ∙ h;
      }

module _ (problem : Problem) (centre : Layout) (tracks : List FlipTrack) (H : IsHeld problem centre tracks) (es : List Edge) where
  pub all_follow : IsTriangulated centre.points centre.edges → all_flip centre.points centre.edges es ≡ true → All (CanFollow es) tracks
  all_follow I h =
      can_follow problem.points centre.edges es (subst (λ ps. IsTriangulated ps centre.edges) H.of_points I) (subst (λ ps. all_flip ps centre.edges es ≡ true) H.of_points h) problem.inputs tracks H.lead H.is_plan.lead
      (instance problem centre tracks H).triangulated

  pub tried : (total : ℕ) (b : Bool) → all_flip centre.points centre.edges es ≡ true → total ≡ weighted_sum problem.weights (map round_count (lists_of tracks)) → b ≡ nat_lt (weighted_sum problem.weights (map (rounds_then es) tracks)) total
      → b ≡ lowers problem.points (plan_of problem centre.edges tracks) es
  tried total b h t k =
      k
      ∙ (ap₂ nat_lt (ap (weighted_sum problem.weights) (rounds_are problem.points centre.edges es problem.inputs tracks H.lead)) t
      ∙ lowers_where problem.points es (plan_of problem centre.edges tracks) (subst (λ ps. all_flip ps centre.edges es ≡ true) H.of_points h))

  pub tried_not : all_flip centre.points centre.edges es ≡ false → false ≡ lowers problem.points (plan_of problem centre.edges tracks) es
  tried_not h = lowers_not problem.points es (plan_of problem centre.edges tracks) (subst (λ ps. all_flip ps centre.edges es ≡ false) H.of_points h)
