-- Edges grouped into sets by the numbers of their flips.
use Rattle.std.proofs.Common.{◌≡◌, ◌∙◌, ◌⊎◌, inl, inr, ◌↔◌, ℕ, zero, suc, ◌+◌, ◌-◌, ◌<◌, ◌≤◌, List, [], ◌∷◌, ◌++◌, length, get_or, set, take, map, Contains, refl, sym, ap, subst, subst₂, arith, Result, Ok, Err, IfOk, OnOk, take-suc, ext_get_or, get_or-set_same, get_or-set_other}
use native.Mathlib.Decide.{dec_lt, ℕ_discrete}
use Rattle.std.proofs.Math.ListN.{get_or-append}
use Rattle.std.proofs.Math.Seq.{get_or-append_right}
use Rattle.edge_table.specs.declared.edge.Edge.{Edge}
use Rattle.edge_table.specs.Edges.{IsAscending, AddsEdge}
use Rattle.edge_table.proofs.Ascending.{same_members}
use Rattle.tri_check.specs.Layouts.{Layout}
use Rattle.flip_list_law.specs.declared.Flip.{Flip}
use Rattle.flip_list_law.specs.FlipLists.{round_numbers, greatest, grouped, last_images}
use Rattle.flip_list_law.proofs.FlipLists.{length-numbers, number_in_list}
use Rattle.flip_list_law.proofs.GroupingShape.{length-grouped}
use Rattle.flip_list_law.proofs.Proved.{rounds_group_by_number, grouping_replays, last_images_law}
use Rattle.flip_list_law.specs.Laws.{Replays, AreLastImages}
use Rattle.round_pack.specs.States.{AreKept}
use Rattle.round_pack.specs.Tracks.{FlipTrack}
use Rattle.round_pack.proofs.Seen.{seen}
use Rattle.round_pack.specs.Groups.{IsEdgeOf, IsImageOf, AreEmptySets, PutsEdge, AreRoundSets, AreAscendingSets, AddsImage, IsImageSet}

-- ---- empty sets
pub empty_more : (sets : List (List Edge)) (count : ℕ) → AreEmptySets sets count → AreEmptySets (sets ++ [] ∷ []) (suc count)
empty_more sets count h = record { count_is = length_more sets ∙ ap suc h.count_is; empty = λ k. by_place k (dec_lt k (length sets)) }
  where
    length_more : (xs : List (List Edge)) → length (xs ++ [] ∷ []) ≡ suc (length xs)
    length_more [] = refl
    length_more (x ∷ xs) = ap suc (length_more xs)

    none : List Edge
    none = []

    single : (n : ℕ) → get_or (none ∷ []) n none ≡ none
    single zero = refl
    single (suc n) = refl

    by_place : (k : ℕ) → Dec (k < length sets) → get_or (sets ++ [] ∷ []) k [] ≡ []
    by_place k (yes l) = get_or-append sets ([] ∷ []) [] k l ∙ h.empty k
    by_place k (no n) = get_or-append_right sets ([] ∷ []) k [] (omega arith) ∙ single (k - length sets)

-- ---- one edge more
pub puts : (old : List (List Edge)) (before : ℕ) (e : Edge) (x y : List Edge) → before < length old → x ≡ get_or old before x → AddsEdge x y e → PutsEdge old (set old before y) before e
puts old before e x y l at adds = record { count_is = length_set old before; members = λ k f. by_place k f (ℕ_discrete k before) }
  where
    length_set : (xs : List (List Edge)) (i : ℕ) → length (set xs i y) ≡ length xs
    length_set [] i = refl
    length_set (z ∷ xs) zero = refl
    length_set (z ∷ xs) (suc i) = ap suc (length_set xs i)

    default : (xs : List (List Edge)) (i : ℕ) (c d : List Edge) → i < length xs → get_or xs i c ≡ get_or xs i d
    default [] i c d k = absurd (omega arith)
    default (z ∷ xs) zero c d k = refl
    default (z ∷ xs) (suc i) c d k = default xs i c d (omega arith)

    here : x ≡ get_or old before []
    here = at ∙ default old before x [] l

    by_place : (k : ℕ) (f : Edge) → Dec (k ≡ before) → Contains (get_or (set old before y) k []) f ↔ (Contains (get_or old k []) f ⊎ ((k ≡ before) × (f ≡ e)))
    by_place k f (yes h) =
        let new : get_or (set old before y) k [] ≡ y = ap (λ i. get_or (set old before y) i []) h ∙ get_or-set_same old before y [] l in
        let was : get_or old k [] ≡ x = ap (λ i. get_or old i []) h ∙ sym here in
        (to new was, from new was)
      where
        to : get_or (set old before y) k [] ≡ y → get_or old k [] ≡ x → Contains (get_or (set old before y) k []) f → Contains (get_or old k []) f ⊎ ((k ≡ before) × (f ≡ e))
        to new was c = elim ((adds f).0 (subst (λ es. Contains es f) new c)) [ inl i ↦ inl (subst (λ es. Contains es f) (sym was) i) | inr i ↦ inr (h, i) ]

        from : get_or (set old before y) k [] ≡ y → get_or old k [] ≡ x → Contains (get_or old k []) f ⊎ ((k ≡ before) × (f ≡ e)) → Contains (get_or (set old before y) k []) f
        from new was c = subst (λ es. Contains es f) (sym new) ((adds f).1 (elim c [ inl i ↦ inl (subst (λ es. Contains es f) was i) | inr i ↦ inr i.1 ]))
    by_place k f (no n) =
        let same = get_or-set_other old before k y [] n in
        (λ c. inl (subst (λ es. Contains es f) same c), λ c. elim c [ inl i ↦ subst (λ es. Contains es f) (sym same) i | inr i ↦ absurd (n i.0) ])

-- what the place of a flip holds, whatever stands for one past the end
any_default : (flips : List Flip) (i : ℕ) (x d : Flip) → i < length flips → x ≡ get_or flips i x → get_or flips i d ≡ x
any_default [] i x d l e = absurd (omega arith)
any_default (flip ∷ flips) zero x d l e = sym e
any_default (flip ∷ flips) (suc i) x d l e = any_default flips i x d (omega arith) e

-- the flip at the place i
any_flip : (flips : List Flip) (i : ℕ) → i < length flips → (x : Flip) × (x ≡ get_or flips i x)
any_flip [] i l = absurd (omega arith)
any_flip (flip ∷ flips) zero l = (flip, refl)
any_flip (flip ∷ flips) (suc i) l = any_flip flips i (omega arith)

pub number_range : (flips : List Flip) (numbers : List ℕ) (i : ℕ) → numbers ≡ round_numbers flips → i < length flips → (i < length numbers) × (1 ≤ get_or numbers i 0) × (get_or numbers i 0 ≤ greatest numbers)
number_range flips numbers i h l = subst (λ ns. (i < length ns) × (1 ≤ get_or ns i 0) × (get_or ns i 0 ≤ greatest ns)) (sym h) ranges
  where
    below : (ns : List ℕ) (k : ℕ) → k < length ns → get_or ns k 0 ≤ greatest ns
    below [] k m = absurd (omega arith)
    below (n ∷ ns) zero m = omega arith
    below (n ∷ ns) (suc k) m = let b = below ns k (omega arith) in omega arith

    ranges : (i < length (round_numbers flips)) × (1 ≤ get_or (round_numbers flips) i 0) × (get_or (round_numbers flips) i 0 ≤ greatest (round_numbers flips))
    ranges =
        let long = length-numbers flips (λ t. 0) in
        let within : i < length (round_numbers flips) = omega arith in
        let x = any_flip flips i l in
        let n = number_in_list flips (λ t. 0) i x.0 l (sym x.1) in
        (within, omega (arith, n), below (round_numbers flips) i within)

pub round_more : (sets new : List (List Edge)) (flips : List Flip) (numbers : List ℕ) (i : ℕ) (x : Flip) → i < length flips → x ≡ get_or flips i x → 1 ≤ get_or numbers i 0 → PutsEdge sets new (get_or numbers i 0 - 1) x.edge → AreRoundSets sets flips numbers i
    → AreRoundSets new flips numbers (suc i)
round_more sets new flips numbers i x l at least p h = record { count_is = p.count_is ∙ h.count_is; members = λ k e. (λ c. to k e ((p.members k e).0 c), λ m. (p.members k e).1 (from k e m (dec_lt m.place i))) }
  where
    to : (k : ℕ) (e : Edge) → Contains (get_or sets k []) e ⊎ ((k ≡ get_or numbers i 0 - 1) × (e ≡ x.edge)) → IsEdgeOf flips numbers (suc i) (suc k) e
    to k e (inl c) = let m = (h.members k e).0 c in record { place = m.place; within = (let w = m.within in omega arith); number = m.number; edge = m.edge }
    to k e (inr c) = record { place = i; within = omega arith; number = (let j = c.0 in omega arith); edge = λ d. ap (λ (y : Flip). y.edge) (any_default flips i x d l at) ∙ sym c.1 }

    from : (k : ℕ) (e : Edge) (m : IsEdgeOf flips numbers (suc i) (suc k) e) → Dec (m.place < i) → Contains (get_or sets k []) e ⊎ ((k ≡ get_or numbers i 0 - 1) × (e ≡ x.edge))
    from k e m (yes w) = inl ((h.members k e).1 (record { place = m.place; within = w; number = m.number; edge = m.edge }))
    from k e m (no n) =
        let w = m.within in
        let is : m.place ≡ i = omega arith in
        let number : get_or numbers i 0 ≡ suc k = ap (λ j. get_or numbers j 0) (sym is) ∙ m.number in
        inr (omega arith, sym (m.edge x) ∙ ap (λ j. (get_or flips j x).edge) is ∙ ap (λ (y : Flip). y.edge) (sym at))

pub all_rounds : (sets : List (List Edge)) (flips : List Flip) (numbers : List ℕ) (i : ℕ) → i ≤ length flips → length flips ≤ i → AreRoundSets sets flips numbers i → AreRoundSets sets flips numbers (length flips)
all_rounds sets flips numbers i l n h = subst (AreRoundSets sets flips numbers) (omega arith) h

-- ---- one image more
pub adds_image : (old new : List Edge) (flip : Flip) (number wanted : ℕ) → number ≡ wanted → AddsEdge old new flip.image → AddsImage old new flip number wanted
adds_image old new flip number wanted h adds = record {
  members = λ e. (λ c. elim ((adds e).0 c) [ inl i ↦ inl i | inr i ↦ inr (h, sym i) ], λ c. (adds e).1 (elim c [ inl i ↦ inl i | inr i ↦ inr (sym i.1) ]));
}

pub image_more : (es new : List Edge) (flips : List Flip) (numbers : List ℕ) (n i : ℕ) (x : Flip) → i < length flips → x ≡ get_or flips i x → AddsImage es new x (get_or numbers i 0) n → IsImageSet es flips numbers n i → IsImageSet new flips numbers n (suc i)
image_more es new flips numbers n i x l at p h = record { members = λ e. (λ c. to e ((p.members e).0 c), λ m. (p.members e).1 (from e m (dec_lt m.place i))) }
  where
    to : (e : Edge) → Contains es e ⊎ ((get_or numbers i 0 ≡ n) × (x.image ≡ e)) → IsImageOf flips numbers (suc i) n e
    to e (inl c) = let m = (h.members e).0 c in record { place = m.place; within = (let w = m.within in omega arith); number = m.number; image = m.image }
    to e (inr c) = record { place = i; within = omega arith; number = c.0; image = λ d. ap (λ (y : Flip). y.image) (any_default flips i x d l at) ∙ c.1 }

    from : (e : Edge) (m : IsImageOf flips numbers (suc i) n e) → Dec (m.place < i) → Contains es e ⊎ ((get_or numbers i 0 ≡ n) × (x.image ≡ e))
    from e m (yes w) = inl ((h.members e).1 (record { place = m.place; within = w; number = m.number; image = m.image }))
    from e m (no k) =
        let w = m.within in
        let is : m.place ≡ i = omega arith in
        inr (ap (λ j. get_or numbers j 0) (sym is) ∙ m.number, ap (λ (y : Flip). y.image) at ∙ ap (λ j. (get_or flips j x).image) (sym is) ∙ m.image x)

pub all_images : (es : List Edge) (flips : List Flip) (numbers : List ℕ) (n i : ℕ) → i ≤ length flips → length flips ≤ i → IsImageSet es flips numbers n i → IsImageSet es flips numbers n (length flips)
all_images es flips numbers n i l m h = subst (IsImageSet es flips numbers n) (omega arith) h

-- ---- sets as lists
pub took : {X : Type 0} (xs : List X) (i : ℕ) (x : X) → i < length xs → x ≡ get_or xs i x → take i xs ++ x ∷ [] ≡ take (i + 1) xs
took xs i x l h =
    let e : i + 1 ≡ suc i = omega arith in
    ap (λ y. take i xs ++ y ∷ []) h ∙ sym (take-suc xs i x l) ∙ ap (λ k. take k xs) (sym e)

pub ascending_more : (sets : List (List Edge)) (i : ℕ) (x : List Edge) → i < length sets → x ≡ get_or sets i x → IsAscending x → AreAscendingSets sets i → AreAscendingSets sets (i + 1)
ascending_more sets i x l at up h k m = by_place (dec_lt k i)
  where
    default : (xs : List (List Edge)) (j : ℕ) (c d : List Edge) → j < length xs → get_or xs j c ≡ get_or xs j d
    default [] j c d n = absurd (omega arith)
    default (z ∷ xs) zero c d n = refl
    default (z ∷ xs) (suc j) c d n = default xs j c d (omega arith)

    by_place : Dec (k < i) → IsAscending (get_or sets k [])
    by_place (yes w) = h k w
    by_place (no n) =
        let is : i ≡ k = omega arith in
        subst (λ j. IsAscending (get_or sets j [])) is (subst IsAscending (at ∙ default sets i x [] l) up)

-- ---- the sets are the rounds
at_map : (f : Flip → Edge) (flips : List Flip) (i : ℕ) (d : Flip) (e : Edge) → i < length flips → get_or (map f flips) i e ≡ f (get_or flips i d)
at_map f [] i d e l = absurd (omega arith)
at_map f (flip ∷ flips) zero d e l = refl
at_map f (flip ∷ flips) (suc i) d e l = at_map f flips i d e (omega arith)

pub sets_are_rounds : (start end : Layout) (flips : List Flip) (numbers : List ℕ) (sets : List (List Edge)) → AreKept start end flips numbers → AreRoundSets sets flips numbers (length flips) → AreAscendingSets sets (length sets) → sets ≡ grouped flips
sets_are_rounds start end flips numbers sets kept h up =
    ext_get_or [] sets (grouped flips) long (λ k l. same_members (get_or sets k []) (get_or (grouped flips) k []) (up k l) (replays.in_order k [] (omega (arith, long))) (λ e. (to k e, from k e)))
  where
    replays : Replays start.points start.edges flips end.edges
    replays = grouping_replays start.points start.edges end.edges flips kept.triangulated.placed kept.triangulated.triangulation kept.leads

    long : length sets ≡ length (grouped flips)
    long = h.count_is ∙ ap greatest kept.numbered ∙ sym (length-grouped flips)

    to : (k : ℕ) (e : Edge) → Contains (get_or sets k []) e → Contains (get_or (grouped flips) k []) e
    to k e c =
        let m = (h.members k e).0 c in
        let x = any_flip flips m.place m.within in
        (rounds_group_by_number flips k e).1 (m.place, m.within, ap (λ ns. get_or ns m.place 0) (sym kept.numbered) ∙ m.number, at_map (λ (flip : Flip). flip.edge) flips m.place x.0 e m.within ∙ m.edge x.0)

    from : (k : ℕ) (e : Edge) → Contains (get_or (grouped flips) k []) e → Contains (get_or sets k []) e
    from k e c =
        let m = (rounds_group_by_number flips k e).0 c in
        (h.members k e).1 (record {
          place = m.0;
          within = m.1;
          number = ap (λ ns. get_or ns m.0 0) kept.numbered ∙ m.2;
          edge = λ d. sym (at_map (λ (flip : Flip). flip.edge) flips m.0 d e m.1) ∙ m.3;
        })

pub set_is_last : (start end : Layout) (flips : List Flip) (numbers : List ℕ) (es : List Edge) → AreKept start end flips numbers → IsImageSet es flips numbers (greatest numbers) (length flips) → IsAscending es → es ≡ last_images flips
set_is_last start end flips numbers es kept h up = same_members es (last_images flips) up law.in_order (λ e. (to e, from e))
  where
    law : AreLastImages flips end.edges
    law = last_images_law start.points start.edges end.edges flips kept.triangulated.placed kept.triangulated.triangulation kept.leads

    to : (e : Edge) → Contains es e → Contains (last_images flips) e
    to e c =
        let m = (h.members e).0 c in
        let x = any_flip flips m.place m.within in
        (law.members e).1 (m.place, m.within, ap (λ ns. get_or ns m.place 0) (sym kept.numbered) ∙ m.number ∙ ap greatest kept.numbered, at_map (λ (flip : Flip). flip.image) flips m.place x.0 e m.within ∙ m.image x.0)

    from : (e : Edge) → Contains (last_images flips) e → Contains es e
    from e c =
        let m = (law.members e).0 c in
        (h.members e).1 (record {
          place = m.0;
          within = m.1;
          number = ap (λ ns. get_or ns m.0 0) kept.numbered ∙ m.2 ∙ ap greatest (sym kept.numbered);
          image = λ d. sym (at_map (λ (flip : Flip). flip.image) flips m.0 d e m.1) ∙ m.3;
        })

-- ---- results
pub ok_becomes : {X E : Type 0} (r : Result X E) (y z : X) (A : Type 0) → OnOk r A → IfOk r (λ x. x ≡ y) → (A → y ≡ z) → IfOk r (λ x. x ≡ z)
ok_becomes (Ok x) y z A a h f = h ∙ f a
ok_becomes (Err e) y z A a h f = tt

pub ok_same : {X E : Type 0} (r : Result X E) (y z : X) → IfOk r (λ x. x ≡ y) → y ≡ z → IfOk r (λ x. x ≡ z)
ok_same (Ok x) y z h e = h ∙ e
ok_same (Err e) y z h f = tt

-- ---- what is seen of them
module _ (start end : Layout) (flips : List Flip) (numbers : List ℕ) (kept : AreKept start end flips numbers) (room : ℕ) (v : FlipTrack) (is : seen start end flips room ≡ v) where
  pub seen_rounds : (sets xs : List (List Edge)) (fs : List Flip) (ns : List ℕ) → fs ≡ flips → ns ≡ numbers → AreRoundSets sets fs ns (length fs) → xs ≡ sets → AreAscendingSets xs (length xs) → xs ≡ grouped v.flips
  seen_rounds sets xs fs ns ef en h ex up =
      sets_are_rounds start end flips numbers xs kept (subst (λ ys. AreRoundSets ys flips numbers (length flips)) (sym ex) (subst₂ (λ gs ms. AreRoundSets sets gs ms (length gs)) ef en h)) up
      ∙ ap (λ (w : FlipTrack). grouped w.flips) is

  pub seen_images : (es : List Edge) (fs : List Flip) (ns ms : List ℕ) (n : ℕ) → fs ≡ flips → ns ≡ numbers → n ≡ greatest ms → ms ≡ numbers → IsImageSet es fs ns n (length fs) → IsAscending es → es ≡ last_images v.flips
  seen_images es fs ns ms n ef en eg em h up =
      set_is_last start end flips numbers es kept (subst (λ k. IsImageSet es flips numbers k (length flips)) (eg ∙ ap greatest em) (subst₂ (λ gs ls. IsImageSet es gs ls n (length gs)) ef en h)) up
      ∙ ap (λ (w : FlipTrack). last_images w.flips) is

  pub seen_replays : Replays v.points v.start v.flips v.end
  seen_replays =
      subst (λ (w : FlipTrack). Replays w.points w.start w.flips w.end) is (grouping_replays start.points start.edges end.edges flips kept.triangulated.placed kept.triangulated.triangulation kept.leads)

  pub seen_last : AreLastImages v.flips v.end
  seen_last = subst (λ (w : FlipTrack). AreLastImages w.flips w.end) is (last_images_law start.points start.edges end.edges flips kept.triangulated.placed kept.triangulated.triangulation kept.leads)
