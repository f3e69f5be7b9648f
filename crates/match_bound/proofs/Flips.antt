-- A free place moves back along the way, and is filled at its start.
use Rattle.std.proofs.Common.{◌≡◌, ◌≢◌, ◌⊎◌, inl, inr, ℕ, ◌+◌, ◌<◌, Option, Some, None, List, length, set, refl, sym, ap, ◌∙◌, subst, arith, get_or-set_same, get_or-set_other}
use Rattle.std.specs.Prelude.{is_none, count_by}
use Rattle.std.proofs.lemmas.Bool.{cases_eq}
use Rattle.std.proofs.lemmas.List.{length-set}
use Rattle.std.proofs.lemmas.List.Sums.{sum_by-set}
use Rattle.match_bound.specs.declared.labels.Label.{Label}
use Rattle.match_bound.specs.Matchings.{image_of, IsMatching}
use Rattle.match_bound.specs.Searches.{label_at, IsRooted, IsByWay, IsOnWay, IsFlipped}
use Rattle.match_bound.proofs.Trees.{one_if_none, some_is, some_none, imaged}

-- the flip as far as the hole
pub record Flipping (labels : List Label) (end target : ℕ) (old image : List (Option ℕ)) (hole : ℕ) : Type 0 where
  pub matching : IsMatching (length labels) target image
  pub below : hole < length labels
  pub free : image_of image hole ≡ None
  pub on : IsOnWay labels end hole
  pub same : (i : ℕ) → (label_at labels i).depth < (label_at labels hole).depth → image_of image i ≡ image_of old i
  pub pairs : (i j : ℕ) → image_of image i ≡ Some j → (image_of old i ≡ Some j) ⊎ (IsOnWay labels end i × IsByWay old target j (label_at labels i).from)
  pub idle : (i : ℕ) → image_of image i ≡ None → (i ≡ hole) ⊎ (image_of old i ≡ None)

-- one image put for another
counted : (image : List (Option ℕ)) (i : ℕ) (before after : Option ℕ) → i < length image → image_of image i ≡ before → count_by is_none (set image i after) + one_if_none before ≡ count_by is_none image + one_if_none after
counted image i before after l e = subst (λ o. count_by is_none (set image i after) + one_if_none o ≡ count_by is_none image + one_if_none after) e (sum_by-set one_if_none image i after None l)

module _ (m target : ℕ) (image : List (Option ℕ)) (M : IsMatching m target image) (hole : ℕ) (below : hole < m) (free : image_of image hole ≡ None) where
  pub hole_in : hole < length image
  hole_in = subst (λ n. hole < n) (sym M.long) below

  -- another input's image in the place that was free
  module _ (before j : ℕ) (has : image_of image before ≡ Some j) where
    abbrev pub moved : List (Option ℕ)
    moved = set (set image hole (Some j)) before None

    before_in : before < length image
    before_in = imaged image before j has

    unlike : before ≢ hole
    unlike e = some_none (sym has ∙ (ap (image_of image) e ∙ free))

    pub moved_before : image_of moved before ≡ None
    moved_before = get_or-set_same (set image hole (Some j)) before None None (subst (λ n. before < n) (sym (length-set image hole (Some j))) before_in)

    pub moved_hole : image_of moved hole ≡ Some j
    moved_hole = get_or-set_other (set image hole (Some j)) before hole None None (λ e. unlike (sym e)) ∙ get_or-set_same image hole (Some j) None hole_in

    pub moved_other : (i : ℕ) → i ≢ hole → i ≢ before → image_of moved i ≡ image_of image i
    moved_other i n o = get_or-set_other (set image hole (Some j)) before i None None o ∙ get_or-set_other image hole i (Some j) None n

    abbrev Place : ℕ → Type 0
    Place i = (i ≡ hole) ⊎ ((i ≡ before) ⊎ ((i ≢ hole) × (i ≢ before)))

    pub place : (i : ℕ) → Place i
    place i = by_hole (cases_eq i hole) (cases_eq i before)
      where
        by_hole : (i ≡ hole) ⊎ (i ≡ hole → ⊥) → (i ≡ before) ⊎ (i ≡ before → ⊥) → Place i
        by_hole (inl e) q = inl e
        by_hole (inr n) (inl e) = inr (inl e)
        by_hole (inr n) (inr o) = inr (inr (n, o))

    -- the input that had an image before
    source : (i y : ℕ) → image_of moved i ≡ Some y → (a : ℕ) × (image_of image a ≡ Some y) × (((i ≡ hole) × (a ≡ before)) ⊎ ((i ≢ hole) × (i ≢ before) × (i ≡ a)))
    source i y e = by_place (place i)
      where
        by_place : Place i → (a : ℕ) × (image_of image a ≡ Some y) × (((i ≡ hole) × (a ≡ before)) ⊎ ((i ≢ hole) × (i ≢ before) × (i ≡ a)))
        by_place (inl s) = (before, has ∙ (sym moved_hole ∙ (ap (image_of moved) (sym s) ∙ e)), inl (s, refl))
        by_place (inr (inl s)) = absurd (some_none (sym e ∙ (ap (image_of moved) s ∙ moved_before)))
        by_place (inr (inr (n, o))) = (i, sym (moved_other i n o) ∙ e, inr (n, o, refl))

    pub moved_matching : IsMatching m target moved
    moved_matching = record {
      long = length-set (set image hole (Some j)) before None ∙ (length-set image hole (Some j) ∙ M.long);
      below = λ i y e. by_source i y (source i y e);
      apart = λ i k y e f. same i k y (source i y e) (source k y f);
      free = free_count;
    }
      where
        by_source : (i y : ℕ) → (a : ℕ) × (image_of image a ≡ Some y) × (((i ≡ hole) × (a ≡ before)) ⊎ ((i ≢ hole) × (i ≢ before) × (i ≡ a))) → y < target
        by_source i y (a, e, p) = M.below a y e

        same : (i k y : ℕ) → (a : ℕ) × (image_of image a ≡ Some y) × (((i ≡ hole) × (a ≡ before)) ⊎ ((i ≢ hole) × (i ≢ before) × (i ≡ a)))
            → (a : ℕ) × (image_of image a ≡ Some y) × (((k ≡ hole) × (a ≡ before)) ⊎ ((k ≢ hole) × (k ≢ before) × (k ≡ a))) → i ≡ k
        same i k y (a, e, inl (p, q)) (b, f, inl (r, s)) = p ∙ sym r
        same i k y (a, e, inl (p, q)) (b, f, inr (n, o, r)) = absurd (o (r ∙ (sym (M.apart a b y e f) ∙ q)))
        same i k y (a, e, inr (n, o, p)) (b, f, inl (r, s)) = absurd (o (p ∙ (M.apart a b y e f ∙ s)))
        same i k y (a, e, inr (n, o, p)) (b, f, inr (n', o', r)) = p ∙ (M.apart a b y e f ∙ sym r)

        free_count : count_by is_none moved + target ≡ m
        free_count =
            let first = counted image hole None (Some j) hole_in free in
            let second = counted (set image hole (Some j)) before (Some j) None (subst (λ n. before < n) (sym (length-set image hole (Some j))) before_in) (get_or-set_other image hole before (Some j) None unlike ∙ has) in
            let f = M.free in
            omega (arith, first, second, f)

  -- the number in the place that was free
  abbrev pub filled : List (Option ℕ)
  filled = set image hole (Some target)

  filled_hole : image_of filled hole ≡ Some target
  filled_hole = get_or-set_same image hole (Some target) None hole_in

  filled_other : (i : ℕ) → i ≢ hole → image_of filled i ≡ image_of image i
  filled_other i n = get_or-set_other image hole i (Some target) None n

  pub filled_cases : (i y : ℕ) → image_of filled i ≡ Some y → ((i ≡ hole) × (y ≡ target)) ⊎ ((i ≢ hole) × (image_of image i ≡ Some y))
  filled_cases i y e = by_place (cases_eq i hole)
    where
      by_place : (i ≡ hole) ⊎ (i ≡ hole → ⊥) → ((i ≡ hole) × (y ≡ target)) ⊎ ((i ≢ hole) × (image_of image i ≡ Some y))
      by_place (inl s) = inl (s, some_is (sym e ∙ (ap (image_of filled) s ∙ filled_hole)))
      by_place (inr n) = inr (n, sym (filled_other i n) ∙ e)

  pub filled_idle : (i : ℕ) → image_of filled i ≡ None → (i ≢ hole) × (image_of image i ≡ None)
  filled_idle i e = by_place (cases_eq i hole)
    where
      by_place : (i ≡ hole) ⊎ (i ≡ hole → ⊥) → (i ≢ hole) × (image_of image i ≡ None)
      by_place (inl s) = absurd (some_none (sym filled_hole ∙ (ap (image_of filled) (sym s) ∙ e)))
      by_place (inr n) = (n, sym (filled_other i n) ∙ e)

  pub filled_matching : IsMatching m (target + 1) filled
  filled_matching = record {
    long = length-set image hole (Some target) ∙ M.long;
    below = λ i y e. below_next i y (filled_cases i y e);
    apart = λ i k y e f. same i k y (filled_cases i y e) (filled_cases k y f);
    free = (let c = counted image hole None (Some target) hole_in free in let f = M.free in omega (arith, c, f));
  }
    where
      below_next : (i y : ℕ) → ((i ≡ hole) × (y ≡ target)) ⊎ ((i ≢ hole) × (image_of image i ≡ Some y)) → y < target + 1
      below_next i y (inl (s, e)) = omega (arith, e)
      below_next i y (inr (n, e)) = let b = M.below i y e in omega (arith, b)

      same : (i k y : ℕ) → ((i ≡ hole) × (y ≡ target)) ⊎ ((i ≢ hole) × (image_of image i ≡ Some y)) → ((k ≡ hole) × (y ≡ target)) ⊎ ((k ≢ hole) × (image_of image k ≡ Some y)) → i ≡ k
      same i k y (inl (s, e)) (inl (t, f)) = s ∙ sym t
      same i k y (inl (s, e)) (inr (n, f)) = let b = M.below k y f in absurd (omega (arith, b, e))
      same i k y (inr (n, e)) (inl (t, f)) = let b = M.below i y e in absurd (omega (arith, b, f))
      same i k y (inr (n, e)) (inr (o, f)) = M.apart i k y e f

module _ (labels : List Label) (end target : ℕ) (old image : List (Option ℕ)) (R : IsRooted old labels) (hole : ℕ) (F : Flipping labels end target old image hole) where
  -- what the input before the hole goes to still stands
  pub still : (before : ℕ) → (label_at labels hole).from ≡ Some before → (j : ℕ) × (image_of old before ≡ Some j) × (image_of image before ≡ Some j)
  still before e = by_image (R.matched before (R.back hole before F.below e).0)
    where
      by_image : (j : ℕ) × (image_of old before ≡ Some j) → (j : ℕ) × (image_of old before ≡ Some j) × (image_of image before ≡ Some j)
      by_image (j, h) = (j, h, F.same before (R.back hole before F.below e).1 ∙ h)

  pub before_within : (before : ℕ) → (label_at labels hole).from ≡ Some before → before < length image
  before_within before e = by_image (still before e)
    where
      by_image : (j : ℕ) × (image_of old before ≡ Some j) × (image_of image before ≡ Some j) → before < length image
      by_image (j, was, has) = imaged image before j has

  pub flip_on : (before : ℕ) → (label_at labels hole).from ≡ Some before → (next : List (Option ℕ)) → next ≡ set (set image hole (image_of image before)) before None → Flipping labels end target old next before
  flip_on before e next is = by_image (still before e)
    where
      by_image : (j : ℕ) × (image_of old before ≡ Some j) × (image_of image before ≡ Some j) → Flipping labels end target old next before
      by_image (j, was, has) = subst (λ x. Flipping labels end target old x before) (sym (is ∙ ap (λ o. set (set image hole o) before None) has)) (record {
        matching = moved_matching (length labels) target image F.matching hole F.below F.free before j has;
        below = subst (λ n. before < n) F.matching.long (imaged image before j has);
        free = moved_before (length labels) target image F.matching hole F.below F.free before j has;
        on = inr (R.back hole before F.below e).0;
        same = same;
        pairs = pairs;
        idle = idle;
      })
        where
          next_image : List (Option ℕ)
          next_image = set (set image hole (Some j)) before None

          at_hole : image_of next_image hole ≡ Some j
          at_hole = moved_hole (length labels) target image F.matching hole F.below F.free before j has

          other : (i : ℕ) → i ≢ hole → i ≢ before → image_of next_image i ≡ image_of image i
          other i n o = moved_other (length labels) target image F.matching hole F.below F.free before j has i n o

          same : (i : ℕ) → (label_at labels i).depth < (label_at labels before).depth → image_of next_image i ≡ image_of old i
          same i d =
              let b = (R.back hole before F.below e).1 in
              other i (λ s. let q = ap (λ n. (label_at labels n).depth) s in absurd (omega (arith, b, d, q))) (λ s. let q = ap (λ n. (label_at labels n).depth) s in absurd (omega (arith, d, q)))
              ∙ F.same i (omega (arith, b, d))

          by_place_pairs : (i y : ℕ) → image_of next_image i ≡ Some y → (i ≡ hole) ⊎ ((i ≡ before) ⊎ ((i ≢ hole) × (i ≢ before))) → (image_of old i ≡ Some y) ⊎ (IsOnWay labels end i × IsByWay old target y (label_at labels i).from)
          by_place_pairs i y f (inl s) =
              let q : j ≡ y = some_is (sym at_hole ∙ (ap (image_of next_image) (sym s) ∙ f)) in
              inr (subst (IsOnWay labels end) (sym s) F.on, subst (IsByWay old target y) (sym (ap (λ n. (label_at labels n).from) s ∙ e)) (was ∙ ap Some q))
          by_place_pairs i y f (inr (inl s)) = absurd (some_none (sym f ∙ (ap (image_of next_image) s ∙ moved_before (length labels) target image F.matching hole F.below F.free before j has)))
          by_place_pairs i y f (inr (inr (n, o))) = F.pairs i y (sym (other i n o) ∙ f)

          pairs : (i y : ℕ) → image_of next_image i ≡ Some y → (image_of old i ≡ Some y) ⊎ (IsOnWay labels end i × IsByWay old target y (label_at labels i).from)
          pairs i y f = by_place_pairs i y f (place (length labels) target image F.matching hole F.below F.free before j has i)

          by_place_idle : (i : ℕ) → image_of next_image i ≡ None → (i ≡ hole) ⊎ ((i ≡ before) ⊎ ((i ≢ hole) × (i ≢ before))) → (i ≡ before) ⊎ (image_of old i ≡ None)
          by_place_idle i f (inl s) = absurd (some_none (sym at_hole ∙ (ap (image_of next_image) (sym s) ∙ f)))
          by_place_idle i f (inr (inl s)) = inl s
          by_place_idle i f (inr (inr (n, o))) = by_old (F.idle i (sym (other i n o) ∙ f))
            where
              by_old : (i ≡ hole) ⊎ (image_of old i ≡ None) → (i ≡ before) ⊎ (image_of old i ≡ None)
              by_old (inl s) = absurd (n s)
              by_old (inr z) = inr z

          idle : (i : ℕ) → image_of next_image i ≡ None → (i ≡ before) ⊎ (image_of old i ≡ None)
          idle i f = by_place_idle i f (place (length labels) target image F.matching hole F.below F.free before j has i)

  pub flip_ends : (label_at labels hole).from ≡ None → IsFlipped labels end target old (set image hole (Some target))
  flip_ends e = record {
    pairs = λ i y f. by_pair i y (filled_cases (length labels) target image F.matching hole F.below F.free i y f);
    idle = λ i f. by_idle i (filled_idle (length labels) target image F.matching hole F.below F.free i f);
  }
    where
      by_pair : (i y : ℕ) → ((i ≡ hole) × (y ≡ target)) ⊎ ((i ≢ hole) × (image_of image i ≡ Some y)) → (image_of old i ≡ Some y) ⊎ (IsOnWay labels end i × IsByWay old target y (label_at labels i).from)
      by_pair i y (inl (s, q)) = inr (subst (IsOnWay labels end) (sym s) F.on, subst (IsByWay old target y) (sym (ap (λ n. (label_at labels n).from) s ∙ e)) q)
      by_pair i y (inr (n, f)) = F.pairs i y f

      by_idle : (i : ℕ) → (i ≢ hole) × (image_of image i ≡ None) → image_of old i ≡ None
      by_idle i (n, f) = by_old (F.idle i f)
        where
          by_old : (i ≡ hole) ⊎ (image_of old i ≡ None) → image_of old i ≡ None
          by_old (inl s) = absurd (n s)
          by_old (inr z) = z

pub flip_begins : (labels : List Label) (end target : ℕ) (image : List (Option ℕ)) → IsMatching (length labels) target image → end < length labels → image_of image end ≡ None → Flipping labels end target image image end
flip_begins labels end target image M l e = record { matching = M; below = l; free = e; on = inl refl; same = λ i d. refl; pairs = λ i j f. inl f; idle = λ i f. inr f }
