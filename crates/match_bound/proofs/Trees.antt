-- A search begins as a tree of its start alone, and grows by the nearest input and what that goes to.
use Rattle.std.proofs.Common.{◌≡◌, ◌≢◌, ◌⊎◌, inl, inr, ℕ, ◌+◌, ◌<◌, ◌≤◌, Bool, true, false, not, cond, ◌&&◌, Option, Some, None, List, [], ◌∷◌, suc, length, set, refl, sym, ap, ◌∙◌, subst, arith, get_or-set_same, get_or-set_other}
use Rattle.std.specs.Prelude.{nat_lt, slice_index, is_none, count_by}
use Rattle.std.proofs.lemmas.Bool.{cases_eq, cases_lt, false_from_ne_true, true≢false, ltb-true, ltb-false}
use Rattle.std.proofs.lemmas.List.{get_or_past, length-set}
use Rattle.std.proofs.lemmas.List.Sums.{count_by-le-length, sum_by-cons}
use Rattle.match_bound.specs.declared.labels.Label.{Label}
use Rattle.match_bound.specs.Matchings.{image_of, IsMatching, Covers}
use Rattle.match_bound.specs.Searches.{no_label, label_at, is_open, open_count, reach_of, relaxed, settled, IsFirst, Relaxes, Comes, IsTree, IsNearest}

abbrev pub one_if_none : Option ℕ → ℕ
one_if_none o = cond (is_none o) 1 0

pub some_is : {A : Type 0} {x y : A} → Some x ≡ Some y → x ≡ y
some_is e = cc

pub some_none : {A : Type 0} {x : A} → Some x ≡ None → ⊥
some_none e = absurd (cc)

-- what has an image is there
pub imaged : (image : List (Option ℕ)) (i j : ℕ) → image_of image i ≡ Some j → i < length image
imaged image i j e = by_size (cases_lt i (length image))
  where
    by_size : (i < length image) ⊎ (length image ≤ i) → i < length image
    by_size (inl h) = h
    by_size (inr h) = absurd (some_none (sym e ∙ get_or_past image i None h))

-- and so is what is settled
pub labelled : (labels : List Label) (i : ℕ) → (label_at labels i).done ≡ true → i < length labels
labelled labels i e = by_size (cases_lt i (length labels))
  where
    by_size : (i < length labels) ⊎ (length labels ≤ i) → i < length labels
    by_size (inl h) = h
    by_size (inr h) = absurd (true≢false (sym e ∙ ap (λ (l : Label). l.done) (get_or_past labels i no_label h)))

module _ (weight : ℕ → ℕ → ℕ) (m target : ℕ) (image : List (Option ℕ)) (u v : List ℕ) (M : IsMatching m target image) where
  pub tree_begins : (labels : List Label) (reach : List (Option ℕ)) → length labels ≡ m → length reach ≡ m → ((i : ℕ) → i < m → IsFirst weight u v target i (label_at labels i))
      → reach_of reach target ≡ Some 0 → ((j : ℕ) → j ≢ target → reach_of reach j ≡ None) → IsTree weight m target image u v labels reach
  tree_begins labels reach ll rl first root rest = record {
    labels_long = ll;
    reach_long = rl;
    root = root;
    linked = linked;
    matched = matched;
    near = near;
    ahead = ahead;
    comes = comes;
    deep = deep;
  }
    where
      linked : (i j : ℕ) → image_of image i ≡ Some j → reach_of reach j ≡ cond (label_at labels i).done (Some (label_at labels i).dist) None
      linked i j e =
          let b : j < target = M.below i j e in
          let l : i < m = subst (λ n. i < n) M.long (imaged image i j e) in
          rest j (λ s. absurd (omega (arith, s, b))) ∙ sym (ap (λ d. cond d (Some (label_at labels i).dist) None) (first i l).is_open)

      matched : (i : ℕ) → (label_at labels i).done ≡ true → (j : ℕ) × (image_of image i ≡ Some j)
      matched i d = absurd (true≢false (sym d ∙ (first i (subst (λ n. i < n) ll (labelled labels i d))).is_open))

      at_root : (j b : ℕ) → reach_of reach j ≡ Some b → (j ≡ target) × (b ≡ 0)
      at_root j b e = by_place (cases_eq j target)
        where
          by_place : (j ≡ target) ⊎ (j ≡ target → ⊥) → (j ≡ target) × (b ≡ 0)
          by_place (inl s) = (s, some_is (sym e ∙ (ap (reach_of reach) s ∙ root)))
          by_place (inr n) = absurd (some_none (sym e ∙ rest j n))

      near : (i j b : ℕ) → i < m → reach_of reach j ≡ Some b → (label_at labels i).dist + weight i j ≤ b + slice_index u i + slice_index v j
      near i j b l e = subst (λ k. (label_at labels i).dist + weight i k ≤ b + slice_index u i + slice_index v k) (sym (at_root j b e).0) (let f = (first i l).dist in omega (arith, f))

      ahead : (j b k : ℕ) → reach_of reach j ≡ Some b → k < m → (label_at labels k).done ≡ false → b ≤ (label_at labels k).dist
      ahead j b k e l o = let z = (at_root j b e).1 in omega (arith, z)

      comes : (i : ℕ) → i < m → Comes weight target image u v labels i (label_at labels i).from
      comes i l = subst (Comes weight target image u v labels i) (sym (first i l).from) (first i l).dist

      deep : (i : ℕ) → i < m → (label_at labels i).depth + open_count labels ≤ m
      deep i l = let z = (first i l).depth in omega (arith, z, ll, count_by-le-length is_open labels)

  -- with nothing else in the search than its start
  pub tree_begun : (labels : List Label) (reach : List (Option ℕ)) → target < m → length labels ≡ m → length reach ≡ m → ((i : ℕ) → i < m → IsFirst weight u v target i (label_at labels i))
      → ((j : ℕ) → reach_of reach j ≡ None) → IsTree weight m target image u v labels (set reach target (Some 0))
  tree_begun labels reach room ll rl first none =
      tree_begins labels (set reach target (Some 0)) ll (length-set reach target (Some 0) ∙ rl) first (get_or-set_same reach target (Some 0) None (subst (λ n. target < n) (sym rl) room))
      (λ j n. get_or-set_other reach target j (Some 0) None n ∙ none j)

-- what relaxing leaves: the label as it was, or the shorter way
pub relax_cases : (label : Label) (d k e : ℕ)
    → ((relaxed label d k e ≡ label) × ((label.done ≡ true) ⊎ (label.dist ≤ d)))
    ⊎ ((relaxed label d k e ≡ record { dist = d; from = Some k; depth = e; done = false }) × (label.done ≡ false) × (d < label.dist))
relax_cases label d k e = by_tests label.done (nat_lt d label.dist) refl refl
  where
    Shorter : Label
    Shorter = record { dist = d; from = Some k; depth = e; done = false }

    computed : (b t : Bool) → label.done ≡ b → nat_lt d label.dist ≡ t → relaxed label d k e ≡ cond (not b && t) Shorter label
    computed b t p q = ap (λ x. cond (not x && nat_lt d label.dist) Shorter label) p ∙ ap (λ x. cond (not b && x) Shorter label) q

    by_tests : (b t : Bool) → label.done ≡ b → nat_lt d label.dist ≡ t
        → ((relaxed label d k e ≡ label) × ((label.done ≡ true) ⊎ (label.dist ≤ d))) ⊎ ((relaxed label d k e ≡ Shorter) × (label.done ≡ false) × (d < label.dist))
    by_tests true t p q = inl (computed true t p q, inl p)
    by_tests false true p q = inr (computed false true p q, p, ltb-true d label.dist q)
    by_tests false false p q = inl (computed false false p q, inr (ltb-false d label.dist q))

module _ (weight : ℕ → ℕ → ℕ) (m target : ℕ) (image : List (Option ℕ)) (u v : List ℕ) (M : IsMatching m target image) (C : Covers weight m u v) (room : target < m)
    (labels : List Label) (reach : List (Option ℕ)) (T : IsTree weight m target image u v labels reach) (k j : ℕ) (N : IsNearest labels k) (goes : image_of image k ≡ Some j)
    (next : List Label) (long : length next ≡ m) (here : label_at next k ≡ settled (label_at labels k))
    (others : (i : ℕ) → i < m → i ≢ k → Relaxes weight u v k j (label_at labels k) i (label_at labels i) (label_at next i)) (fewer : open_count next + 1 ≡ open_count labels)
    (wider : List (Option ℕ)) (wider_is : wider ≡ set reach j (Some (label_at labels k).dist)) where
  abbrev near_way : ℕ → ℕ
  near_way i = (label_at labels k).dist + slice_index u i + slice_index v j

  -- what became of an input
  abbrev Step : ℕ → Type 0
  Step i =
      ((i ≡ k) × (label_at next i ≡ settled (label_at labels i)))
      ⊎ (((i ≢ k) × (label_at next i ≡ label_at labels i) × (((label_at labels i).done ≡ true) ⊎ ((label_at labels i).dist + weight i j ≤ near_way i)))
      ⊎ ((i ≢ k) × ((label_at labels i).done ≡ false) × (d : ℕ) × (label_at next i ≡ record { dist = d; from = Some k; depth = (label_at labels k).depth + 1; done = false }) × (d + weight i j ≡ near_way i) × (d < (label_at labels i).dist)))

  k_in : k < m
  k_in = subst (λ n. k < n) T.labels_long N.there

  j_in : j < m
  j_in = let b : j < target = M.below k j goes in omega (arith, b, room)

  step : (i : ℕ) → i < m → Step i
  step i l = by_place (cases_eq i k)
    where
      by_place : (i ≡ k) ⊎ (i ≡ k → ⊥) → Step i
      by_place (inl e) = inl (e, subst (λ n. label_at next n ≡ settled (label_at labels n)) (sym e) here)
      by_place (inr n) = by_label (others i l n)
        where
          by_label : Relaxes weight u v k j (label_at labels k) i (label_at labels i) (label_at next i) → Step i
          by_label R = by_cases (relax_cases (label_at labels i) R.dist k ((label_at labels k).depth + 1))
            where
              nearer : ((label_at labels i).done ≡ true) ⊎ ((label_at labels i).dist ≤ R.dist) → ((label_at labels i).done ≡ true) ⊎ ((label_at labels i).dist + weight i j ≤ near_way i)
              nearer (inl d) = inl d
              nearer (inr b) = inr (let w = R.way in omega (arith, b, w))

              by_cases : ((relaxed (label_at labels i) R.dist k ((label_at labels k).depth + 1) ≡ label_at labels i) × (((label_at labels i).done ≡ true) ⊎ ((label_at labels i).dist ≤ R.dist)))
                  ⊎ ((relaxed (label_at labels i) R.dist k ((label_at labels k).depth + 1) ≡ record { dist = R.dist; from = Some k; depth = (label_at labels k).depth + 1; done = false }) × ((label_at labels i).done ≡ false) × (R.dist < (label_at labels i).dist))
                  → Step i
              by_cases (inl (e, c)) = inr (inl (n, R.new_is ∙ e, nearer c))
              by_cases (inr (e, o, b)) = inr (inr (n, o, R.dist, R.new_is ∙ e, R.way, b))

  -- a settled input stays as it was
  kept : (i : ℕ) → (label_at labels i).done ≡ true → label_at next i ≡ label_at labels i
  kept i d = by_step (step i (subst (λ n. i < n) T.labels_long (labelled labels i d)))
    where
      by_step : Step i → label_at next i ≡ label_at labels i
      by_step (inl (e, h)) = absurd (true≢false (sym d ∙ (ap (λ n. (label_at labels n).done) e ∙ N.is_open)))
      by_step (inr (inl (n, h, c))) = h
      by_step (inr (inr (n, o, a, h, w, b))) = absurd (true≢false (sym d ∙ o))

  -- and is no farther than the one that is settled now
  earlier : (i : ℕ) → (label_at labels i).done ≡ true → (label_at labels i).dist ≤ (label_at labels k).dist
  earlier i d = by_image (T.matched i d)
    where
      by_image : (a : ℕ) × (image_of image i ≡ Some a) → (label_at labels i).dist ≤ (label_at labels k).dist
      by_image (a, e) = T.ahead a (label_at labels i).dist k (T.linked i a e ∙ ap (λ b. cond b (Some (label_at labels i).dist) None) d) k_in N.is_open

  shorter : (i : ℕ) → i < m → (label_at next i).dist ≤ (label_at labels i).dist
  shorter i l = by_step (step i l)
    where
      by_step : Step i → (label_at next i).dist ≤ (label_at labels i).dist
      by_step (inl (e, h)) = let q = ap (λ (x : Label). x.dist) h in omega (arith, q)
      by_step (inr (inl (n, h, c))) = let q = ap (λ (x : Label). x.dist) h in omega (arith, q)
      by_step (inr (inr (n, o, d, h, w, b))) = let q = ap (λ (x : Label). x.dist) h in omega (arith, q, b)

  reach_here : reach_of wider j ≡ Some (label_at labels k).dist
  reach_here = ap (λ r. reach_of r j) wider_is ∙ get_or-set_same reach j (Some (label_at labels k).dist) None (subst (λ n. j < n) (sym T.reach_long) j_in)

  reach_other : (a : ℕ) → a ≢ j → reach_of wider a ≡ reach_of reach a
  reach_other a n = ap (λ r. reach_of r a) wider_is ∙ get_or-set_other reach j a (Some (label_at labels k).dist) None n

  linked : (i a : ℕ) → image_of image i ≡ Some a → reach_of wider a ≡ cond (label_at next i).done (Some (label_at next i).dist) None
  linked i a e = by_step (step i (subst (λ n. i < n) M.long (imaged image i a e)))
    where
      apart : i ≢ k → a ≢ j
      apart n s = n (M.apart i k j (e ∙ ap Some s) goes)

      Link : Label → Option ℕ
      Link x = cond x.done (Some x.dist) None

      by_step : Step i → reach_of wider a ≡ Link (label_at next i)
      by_step (inl (s, h)) =
          let same : a ≡ j = some_is (sym e ∙ (ap (image_of image) s ∙ goes)) in
          ap (reach_of wider) same ∙ (reach_here ∙ (ap (λ n. Some (label_at labels n).dist) (sym s) ∙ sym (ap Link h)))
      by_step (inr (inl (n, h, c))) = reach_other a (apart n) ∙ (T.linked i a e ∙ sym (ap Link h))
      by_step (inr (inr (n, o, d, h, w, b))) = reach_other a (apart n) ∙ (T.linked i a e ∙ (ap (λ b. cond b (Some (label_at labels i).dist) None) o ∙ sym (ap Link h)))

  matched : (i : ℕ) → (label_at next i).done ≡ true → (a : ℕ) × (image_of image i ≡ Some a)
  matched i d = by_step (step i (subst (λ n. i < n) long (labelled next i d)))
    where
      by_step : Step i → (a : ℕ) × (image_of image i ≡ Some a)
      by_step (inl (s, h)) = (j, ap (image_of image) s ∙ goes)
      by_step (inr (inl (n, h, c))) = T.matched i (sym (ap (λ (x : Label). x.done) h) ∙ d)
      by_step (inr (inr (n, o, a, h, w, b))) = absurd (true≢false (sym d ∙ ap (λ (x : Label). x.done) h))

  near : (i a b : ℕ) → i < m → reach_of wider a ≡ Some b → (label_at next i).dist + weight i a ≤ b + slice_index u i + slice_index v a
  near i a b l e = by_place (cases_eq a j)
    where
      at_j : Step i → (label_at next i).dist + weight i j ≤ near_way i
      at_j (inl (s, h)) = let q = ap (λ (x : Label). x.dist) h in let r = ap (λ n. (label_at labels n).dist) s in let c = C.above i j l j_in in omega (arith, q, r, c)
      at_j (inr (inl (n, h, inl d))) = let q = ap (λ (x : Label). x.dist) h in let c = C.above i j l j_in in omega (arith, q, c, earlier i d)
      at_j (inr (inl (n, h, inr w))) = let q = ap (λ (x : Label). x.dist) h in omega (arith, q, w)
      at_j (inr (inr (n, o, d, h, w, b))) = let q = ap (λ (x : Label). x.dist) h in omega (arith, q, w)

      by_place : (a ≡ j) ⊎ (a ≡ j → ⊥) → (label_at next i).dist + weight i a ≤ b + slice_index u i + slice_index v a
      by_place (inl s) =
          let q : (label_at labels k).dist ≡ b = some_is (sym reach_here ∙ (ap (reach_of wider) (sym s) ∙ e)) in
          subst (λ n. (label_at next i).dist + weight i n ≤ b + slice_index u i + slice_index v n) (sym s) (let t = at_j (step i l) in omega (arith, t, q))
      by_place (inr n) = let t = T.near i a b l (sym (reach_other a n) ∙ e) in omega (arith, t, shorter i l)

  ahead : (a b i : ℕ) → reach_of wider a ≡ Some b → i < m → (label_at next i).done ≡ false → b ≤ (label_at next i).dist
  ahead a b i e l o = by_step (step i l)
    where
      long_way : i ≢ k → (label_at labels i).done ≡ false → (label_at labels k).dist ≤ (label_at labels i).dist
      long_way n p = N.least i (subst (λ x. i < x) (sym T.labels_long) l) p

      -- what is in the search is no farther than the input settled now
      before : (a ≡ j) ⊎ (a ≡ j → ⊥) → b ≤ (label_at labels k).dist
      before (inl s) = let q : (label_at labels k).dist ≡ b = some_is (sym reach_here ∙ (ap (reach_of wider) (sym s) ∙ e)) in omega (arith, q)
      before (inr n) = T.ahead a b k (sym (reach_other a n) ∙ e) k_in N.is_open

      by_step : Step i → b ≤ (label_at next i).dist
      by_step (inl (s, h)) = absurd (true≢false (sym (ap (λ (x : Label). x.done) h) ∙ o))
      by_step (inr (inl (n, h, c))) =
          let q = ap (λ (x : Label). x.dist) h in
          let w = long_way n (sym (ap (λ (x : Label). x.done) h) ∙ o) in
          omega (arith, q, w, before (cases_eq a j))
      by_step (inr (inr (n, p, d, h, w, r))) =
          let q = ap (λ (x : Label). x.dist) h in
          let c = C.above i j l j_in in
          omega (arith, q, w, c, before (cases_eq a j))

  comes_kept : (i : ℕ) (from : Option ℕ) → Comes weight target image u v labels i from → (label_at next i).dist ≡ (label_at labels i).dist → (label_at next i).depth ≡ (label_at labels i).depth → Comes weight target image u v next i from
  comes_kept i None c d e = ap (λ n. n + weight i target) d ∙ c
  comes_kept i (Some p) (done, deep, way) d e =
      let same = kept p done in
      (ap (λ (x : Label). x.done) same ∙ done, let q = ap (λ (x : Label). x.depth) same in omega (arith, q, e, deep), λ a g. let q = ap (λ (x : Label). x.dist) same in let w = way a g in omega (arith, q, d, w))

  comes : (i : ℕ) → i < m → Comes weight target image u v next i (label_at next i).from
  comes i l = by_step (step i l)
    where
      as_before : (label_at next i).from ≡ (label_at labels i).from → (label_at next i).dist ≡ (label_at labels i).dist → (label_at next i).depth ≡ (label_at labels i).depth → Comes weight target image u v next i (label_at next i).from
      as_before f d e = subst (Comes weight target image u v next i) (sym f) (comes_kept i (label_at labels i).from (T.comes i l) d e)

      by_step : Step i → Comes weight target image u v next i (label_at next i).from
      by_step (inl (s, h)) = as_before (ap (λ (x : Label). x.from) h) (ap (λ (x : Label). x.dist) h) (ap (λ (x : Label). x.depth) h)
      by_step (inr (inl (n, h, c))) = as_before (ap (λ (x : Label). x.from) h) (ap (λ (x : Label). x.dist) h) (ap (λ (x : Label). x.depth) h)
      by_step (inr (inr (n, o, d, h, w, b))) = subst (Comes weight target image u v next i) (sym (ap (λ (x : Label). x.from) h)) by_way
        where
          by_way : Comes weight target image u v next i (Some k)
          by_way = (ap (λ (x : Label). x.done) here, deeper, same_way)
            where
              deeper : (label_at next k).depth < (label_at next i).depth
              deeper = let q = ap (λ (x : Label). x.depth) h in let r = ap (λ (x : Label). x.depth) here in omega (arith, q, r)

              same_way : (a : ℕ) → image_of image k ≡ Some a → (label_at next i).dist + weight i a ≡ (label_at next k).dist + slice_index u i + slice_index v a
              same_way a g =
                  let same : j ≡ a = some_is (sym goes ∙ g) in
                  subst (λ z. (label_at next i).dist + weight i z ≡ (label_at next k).dist + slice_index u i + slice_index v z) same
                  (let q = ap (λ (x : Label). x.dist) h in let r = ap (λ (x : Label). x.dist) here in omega (arith, q, r, w))

  deep : (i : ℕ) → i < m → (label_at next i).depth + open_count next ≤ m
  deep i l = by_step (step i l)
    where
      by_step : Step i → (label_at next i).depth + open_count next ≤ m
      by_step (inl (s, h)) = let q = ap (λ (x : Label). x.depth) h in let t = T.deep i l in omega (arith, q, t, fewer)
      by_step (inr (inl (n, h, c))) = let q = ap (λ (x : Label). x.depth) h in let t = T.deep i l in omega (arith, q, t, fewer)
      by_step (inr (inr (n, o, d, h, w, b))) = let q = ap (λ (x : Label). x.depth) h in let t = T.deep k k_in in omega (arith, q, t, fewer)

  pub tree_grows : IsTree weight m target image u v next wider
  tree_grows = record {
    labels_long = long;
    reach_long = ap length wider_is ∙ (length-set reach j (Some (label_at labels k).dist) ∙ T.reach_long);
    root = root;
    linked = linked;
    matched = matched;
    near = near;
    ahead = ahead;
    comes = comes;
    deep = deep;
  }
    where
      root : reach_of wider target ≡ Some 0
      root = reach_other target (λ s. let b : j < target = M.below k j goes in absurd (omega (arith, s, b))) ∙ T.root

-- an input that goes nowhere isn't settled
module _ (m target : ℕ) (image : List (Option ℕ)) (M : IsMatching m target image) (room : target < m) where
  some_free : (xs : List (Option ℕ)) → 0 < count_by is_none xs → (i : ℕ) × (i < length xs) × (image_of xs i ≡ None)
  some_free [] l = absurd (omega arith)
  some_free (None ∷ xs) l = (0, omega arith, refl)
  some_free (Some j ∷ xs) l = later (some_free xs (let e = sum_by-cons one_if_none (Some j) xs in omega (arith, e)))
    where
      later : (i : ℕ) × (i < length xs) × (image_of xs i ≡ None) → (i : ℕ) × (i < length (Some j ∷ xs)) × (image_of (Some j ∷ xs) i ≡ None)
      later (i, b, e) = (suc i, omega arith, e)

  pub free_input : (i : ℕ) × (i < m) × (image_of image i ≡ None)
  free_input = by_free (some_free image (let f = M.free in omega (arith, f)))
    where
      by_free : (i : ℕ) × (i < length image) × (image_of image i ≡ None) → (i : ℕ) × (i < m) × (image_of image i ≡ None)
      by_free (i, b, e) = (i, subst (λ n. i < n) M.long b, e)

  pub open_input : (weight : ℕ → ℕ → ℕ) (u v : List ℕ) (labels : List Label) (reach : List (Option ℕ)) → IsTree weight m target image u v labels reach → (i : ℕ) × (i < length labels) × ((label_at labels i).done ≡ false)
  open_input weight u v labels reach T = by_free free_input
    where
      by_image : (i : ℕ) → image_of image i ≡ None → (j : ℕ) × (image_of image i ≡ Some j) → ⊥
      by_image i e (j, f) = some_none (sym f ∙ e)

      by_free : (i : ℕ) × (i < m) × (image_of image i ≡ None) → (i : ℕ) × (i < length labels) × ((label_at labels i).done ≡ false)
      by_free (i, b, e) = (i, subst (λ n. i < n) (sym T.labels_long) b, false_from_ne_true (label_at labels i).done (λ d. by_image i e (T.matched i d)))
