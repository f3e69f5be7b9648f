-- Potentials that rise and fall by what a search found still cover the weights, and meet each pair by way of which an input was reached.
use Rattle.std.proofs.Common.{◌≡◌, ◌⊎◌, inl, inr, ℕ, ◌+◌, ◌-◌, ◌<◌, ◌≤◌, ◌^◌, Bool, true, false, cond, Option, Some, None, List, [], ◌∷◌, zero, suc, length, get_or, refl, sym, ap, ◌∙◌, subst, arith}
use Rattle.std.specs.Prelude.{slice_index, All}
use Rattle.std.proofs.lemmas.Bool.{cases_Bool}
use Rattle.match_bound.specs.declared.labels.Label.{Label}
use Rattle.match_bound.specs.Matchings.{image_of, IsMatching, IsStage}
use Rattle.match_bound.specs.Searches.{label_at, reach_of, Comes, IsTree, IsNearest, rise, fall, IsRooted, IsByWay, IsOnWay, IsFlipped}
use Rattle.match_bound.proofs.Trees.{some_none, imaged}

reached_or_not : (o : Option ℕ) → ((b : ℕ) × (o ≡ Some b)) ⊎ (o ≡ None)
reached_or_not None = inr refl
reached_or_not (Some b) = inl (b, refl)

at_place : (xs : List ℕ) (i : ℕ) (d : ℕ) → i < length xs → get_or xs i d ≡ slice_index xs i
at_place [] i d l = absurd (omega arith)
at_place (x ∷ xs) zero d l = refl
at_place (x ∷ xs) (suc i) d l = at_place xs i d (omega arith)

module _ (weight : ℕ → ℕ → ℕ) (m target : ℕ) (image : List (Option ℕ)) (u v : List ℕ) (S : IsStage weight m target image u v) (room : target < m) (small : (i j : ℕ) → weight i j < 2 ^ 32)
    (labels : List Label) (reach : List (Option ℕ)) (T : IsTree weight m target image u v labels reach) (end : ℕ) (N : IsNearest labels end) (free : image_of image end ≡ None) where
  abbrev far : ℕ
  far = (label_at labels end).dist

  end_in : end < m
  end_in = subst (λ n. end < n) T.labels_long N.there

  -- what is in the search is no farther than its end
  pub reached : (j b : ℕ) → reach_of reach j ≡ Some b → b ≤ far
  reached j b e = T.ahead j b end e end_in N.is_open

  pub settled_reach : (i j : ℕ) → image_of image i ≡ Some j → (label_at labels i).done ≡ true → reach_of reach j ≡ Some (label_at labels i).dist
  settled_reach i j e d = T.linked i j e ∙ ap (λ b. cond b (Some (label_at labels i).dist) None) d

  pub settled_near : (i : ℕ) → (label_at labels i).done ≡ true → (label_at labels i).dist ≤ far
  settled_near i d = by_image (T.matched i d)
    where
      by_image : (j : ℕ) × (image_of image i ≡ Some j) → (label_at labels i).dist ≤ far
      by_image (j, e) = reached j (label_at labels i).dist (settled_reach i j e d)

  -- the end is within the potential of the number that the search began at
  pub far_small : far < 2 ^ 33
  far_small = let n = T.near end target 0 end_in T.root in let z = S.meets.idle end free in omega (arith, n, z, v_bound)
    where
      v_bound : slice_index v target < 2 ^ 32
      v_bound = S.covers.v_small target 0 (subst (λ n. target < n) (sym S.covers.v_long) room)

  pub fall_fits : (j b : ℕ) → reach_of reach j ≡ Some b → (b ≤ far) × (far ≤ b + slice_index v j)
  fall_fits j b e = (reached j b e, let n = T.near end j b end_in e in let z = S.meets.idle end free in omega (arith, n, z))

  pub rooted : IsRooted image labels
  rooted = record { back = λ i k l e. by_way i k (subst (Comes weight target image u v labels i) e (T.comes i (subst (λ n. i < n) T.labels_long l))); matched = T.matched }
    where
      by_way : (i k : ℕ) → Comes weight target image u v labels i (Some k) → ((label_at labels k).done ≡ true) × ((label_at labels k).depth < (label_at labels i).depth)
      by_way i k (d, b, w) = (d, b)

  module _ (u' v' : List ℕ) (u_long : length u' ≡ length u) (v_long : length v' ≡ length v)
      (risen : (i : ℕ) → slice_index u' i ≡ slice_index u i + rise far (label_at labels i)) (fallen : (j : ℕ) → slice_index v' j + fall far (reach_of reach j) ≡ slice_index v j) where
    risen_if : (i : ℕ) (d : Bool) → (label_at labels i).done ≡ d → slice_index u' i ≡ slice_index u i + cond d (far - (label_at labels i).dist) 0
    risen_if i d e = risen i ∙ ap (λ b. slice_index u i + cond b (far - (label_at labels i).dist) 0) e

    fallen_if : (j : ℕ) (o : Option ℕ) → reach_of reach j ≡ o → slice_index v' j + fall far o ≡ slice_index v j
    fallen_if j o e = ap (λ p. slice_index v' j + fall far p) (sym e) ∙ fallen j

    above : (i j : ℕ) → i < m → j < m → weight i j ≤ slice_index u' i + slice_index v' j
    above i j li lj = by_cases (cases_Bool (label_at labels i).done) (reached_or_not (reach_of reach j))
      where
        old : weight i j ≤ slice_index u i + slice_index v j
        old = S.covers.above i j li lj

        by_cases : ((label_at labels i).done ≡ true) ⊎ ((label_at labels i).done ≡ false) → ((b : ℕ) × (reach_of reach j ≡ Some b)) ⊎ (reach_of reach j ≡ None) → weight i j ≤ slice_index u' i + slice_index v' j
        by_cases (inl d) (inl (b, e)) =
            let p = risen_if i true d in let q = fallen_if j (Some b) e in let n = T.near i j b li e in omega (arith, p, q, n, reached j b e, settled_near i d)
        by_cases (inl d) (inr e) = let p = risen_if i true d in let q = fallen_if j None e in omega (arith, p, q, old)
        by_cases (inr d) (inl (b, e)) =
            let p = risen_if i false d in let q = fallen_if j (Some b) e in let n = T.near i j b li e in
            let f = N.least i (subst (λ x. i < x) (sym T.labels_long) li) d in
            omega (arith, p, q, n, f, reached j b e)
        by_cases (inr d) (inr e) = let p = risen_if i false d in let q = fallen_if j None e in omega (arith, p, q, old)

    tight : (i j : ℕ) → image_of image i ≡ Some j → weight i j ≡ slice_index u' i + slice_index v' j
    tight i j e = by_done (cases_Bool (label_at labels i).done)
      where
        by_done : ((label_at labels i).done ≡ true) ⊎ ((label_at labels i).done ≡ false) → weight i j ≡ slice_index u' i + slice_index v' j
        by_done (inl d) =
            let p = risen_if i true d in let q = fallen_if j (Some (label_at labels i).dist) (settled_reach i j e d) in let t = S.meets.tight i j e in omega (arith, p, q, t, settled_near i d)
        by_done (inr d) =
            let p = risen_if i false d in
            let q = fallen_if j None (T.linked i j e ∙ ap (λ b. cond b (Some (label_at labels i).dist) None) d) in
            let t = S.meets.tight i j e in
            omega (arith, p, q, t)

    idle : (i : ℕ) → image_of image i ≡ None → slice_index u' i ≡ 0
    idle i e = by_done (cases_Bool (label_at labels i).done)
      where
        by_image : (j : ℕ) × (image_of image i ≡ Some j) → slice_index u' i ≡ 0
        by_image (j, f) = absurd (some_none (sym f ∙ e))

        by_done : ((label_at labels i).done ≡ true) ⊎ ((label_at labels i).done ≡ false) → slice_index u' i ≡ 0
        by_done (inl d) = by_image (T.matched i d)
        by_done (inr d) = let p = risen_if i false d in let z = S.meets.idle i e in omega (arith, p, z)

    -- the pair by way of which an input was reached
    tight_way : (i j : ℕ) → IsOnWay labels end i → (from : Option ℕ) → Comes weight target image u v labels i from → IsByWay image target j from → weight i j ≡ slice_index u' i + slice_index v' j
    tight_way i j on from c w = by_on on (start from c w)
      where
        -- the pair's number is in the search, at a distance from which that of the input comes
        Start : Type 0
        Start = (b : ℕ) × (reach_of reach j ≡ Some b) × ((label_at labels i).dist + weight i j ≡ b + slice_index u i + slice_index v j)

        start : (from : Option ℕ) → Comes weight target image u v labels i from → IsByWay image target j from → Start
        start None c w = (0, ap (reach_of reach) w ∙ T.root, subst (λ k. (label_at labels i).dist + weight i k ≡ 0 + slice_index u i + slice_index v k) (sym w) (omega (arith, c)))
        start (Some k) (d, b, way) w = ((label_at labels k).dist, settled_reach k j w d, way j w)

        by_on : IsOnWay labels end i → Start → weight i j ≡ slice_index u' i + slice_index v' j
        by_on (inl s) (b, e, way) =
            let p = risen_if i false (ap (λ n. (label_at labels n).done) s ∙ N.is_open) in
            let q = fallen_if j (Some b) e in
            let f : (label_at labels i).dist ≡ far = ap (λ n. (label_at labels n).dist) s in
            omega (arith, p, q, f, way, reached j b e)
        by_on (inr d) (b, e, way) =
            let p = risen_if i true d in let q = fallen_if j (Some b) e in omega (arith, p, q, way, reached j b e, settled_near i d)

    u_small : All (λ x. x < 2 ^ 32) u'
    u_small i d l = subst (λ x. x < 2 ^ 32) (sym (at_place u' i d l)) (by_done (cases_Bool (label_at labels i).done))
      where
        by_image : (j : ℕ) × (image_of image i ≡ Some j) → slice_index u' i < 2 ^ 32
        by_image (j, e) = let t = tight i j e in let s = small i j in omega (arith, t, s)

        by_done : ((label_at labels i).done ≡ true) ⊎ ((label_at labels i).done ≡ false) → slice_index u' i < 2 ^ 32
        by_done (inl d) = by_image (T.matched i d)
        by_done (inr d) = let p = risen_if i false d in let s = S.covers.u_small i 0 (subst (λ n. i < n) u_long l) in omega (arith, p, s)

    v_small : All (λ x. x < 2 ^ 32) v'
    v_small j d l = subst (λ x. x < 2 ^ 32) (sym (at_place v' j d l)) (let q = fallen j in let s = S.covers.v_small j 0 (subst (λ n. j < n) v_long l) in omega (arith, q, s))

    pub next_stage : (next : List (Option ℕ)) → IsMatching m (target + 1) next → IsFlipped labels end target image next → IsStage weight m (target + 1) next u' v'
    next_stage next M F = record {
      matching = M;
      covers = record { u_long = u_long ∙ S.covers.u_long; v_long = v_long ∙ S.covers.v_long; above = above; u_small = u_small; v_small = v_small };
      meets = record { tight = λ i j e. by_pair i j e (F.pairs i j e); idle = λ i e. idle i (F.idle i e) };
    }
      where
        by_pair : (i j : ℕ) → image_of next i ≡ Some j → (image_of image i ≡ Some j) ⊎ (IsOnWay labels end i × IsByWay image target j (label_at labels i).from) → weight i j ≡ slice_index u' i + slice_index v' j
        by_pair i j e (inl o) = tight i j o
        by_pair i j e (inr (on, w)) = tight_way i j on (label_at labels i).from (T.comes i (subst (λ n. i < n) M.long (imaged next i j e))) w
