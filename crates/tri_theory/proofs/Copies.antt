-- Copies of items: how many, and whose.
use Rattle.std.proofs.Common.{◌≡◌, ◌⊎◌, inl, inr, ℕ, zero, suc, ◌+◌, ◌-◌, ◌<◌, ◌≤◌, List, [], ◌∷◌, ◌++◌, length, get_or, take, replicate, sum, refl, ap, ◌∙◌, arith, length-append}
use Rattle.std.specs.List.{range_with_len}
use Rattle.std.proofs.lemmas.Bool.{cases_lt}
use Rattle.std.proofs.lemmas.List.{length-replicate, get_or-replicate}
use Rattle.std.proofs.lemmas.List.Sums.{sum_by-cons}
use Rattle.tri_theory.specs.Copies.{copied, copy_of}

-- ---- how many
module _ {X : Type 0} where
  pub copies_counted : (ws : List ℕ) (xs : List X) → length ws ≡ length xs → length (copied ws xs) ≡ sum ws
  copies_counted [] [] e = refl
  copies_counted [] (x ∷ xs) e = absurd (omega arith)
  copies_counted (w ∷ ws) [] e = absurd (omega arith)
  copies_counted (w ∷ ws) (x ∷ xs) e =
      let again = copies_counted ws xs (omega arith) in
      let both = length-append (replicate w x) (copied ws xs) in
      omega (arith, again, both, length-replicate w x, sum_by-cons (λ n. n) w ws)

  -- ---- whose: an item in front, or one of the later copies
  append_front : (xs ys : List X) (n : ℕ) (d : X) → n < length xs → get_or (xs ++ ys) n d ≡ get_or xs n d
  append_front [] ys n d l = absurd (omega arith)
  append_front (x ∷ xs) ys zero d l = refl
  append_front (x ∷ xs) ys (suc n) d l = append_front xs ys n d (omega arith)

  append_back : (xs ys : List X) (n m : ℕ) (d : X) → m ≡ length xs + n → get_or (xs ++ ys) m d ≡ get_or ys n d
  append_back [] ys n m d e = let same : m ≡ n = omega arith in ap (λ k. get_or ys k d) same
  append_back (x ∷ xs) ys n zero d e = absurd (omega arith)
  append_back (x ∷ xs) ys n (suc m) d e = append_back xs ys n m d (omega arith)

  pub copied_front : (w : ℕ) (ws : List ℕ) (x : X) (xs : List X) (n : ℕ) (d : X) → n < w → get_or (copied (w ∷ ws) (x ∷ xs)) n d ≡ x
  copied_front w ws x xs n d l = append_front (replicate w x) (copied ws xs) n d (omega (arith, length-replicate w x)) ∙ get_or-replicate w n x d l

  pub copied_back : (w : ℕ) (ws : List ℕ) (x : X) (xs : List X) (n m : ℕ) (d : X) → m ≡ w + n → get_or (copied (w ∷ ws) (x ∷ xs)) m d ≡ get_or (copied ws xs) n d
  copied_back w ws x xs n m d e = append_back (replicate w x) (copied ws xs) n m d (omega (arith, length-replicate w x))

module _ {X : Type 0} where
  -- copy c of the items is the item at the number that copy c of the numbers from a on has
  pub copied_item : (ws : List ℕ) (xs : List X) (a c : ℕ) (d : X) → length ws ≡ length xs → c < sum ws
      → (t : ℕ) × (t < length xs) × (get_or (copied ws (range_with_len a (length ws))) c 0 ≡ a + t) × (get_or (copied ws xs) c d ≡ get_or xs t d)
  copied_item [] xs a c d e l = absurd (omega arith)
  copied_item (w ∷ ws) [] a c d e l = absurd (omega arith)
  copied_item (w ∷ ws) (x ∷ xs) a c d e l = by_test (cases_lt c w) (λ n h. copied_item ws xs (a + 1) n d (omega arith) h)
    where
      Item : Type 0
      Item = (t : ℕ) × (t < length (x ∷ xs)) × (get_or (copied (w ∷ ws) (range_with_len a (length (w ∷ ws)))) c 0 ≡ a + t) × (get_or (copied (w ∷ ws) (x ∷ xs)) c d ≡ get_or (x ∷ xs) t d)

      deeper : (n : ℕ) → c ≡ w + n → (t : ℕ) × (t < length xs) × (get_or (copied ws (range_with_len (a + 1) (length ws))) n 0 ≡ (a + 1) + t) × (get_or (copied ws xs) n d ≡ get_or xs t d) → Item
      deeper n g (t, h, i, j) = (suc t, omega arith, copied_back w ws a (range_with_len (a + 1) (length ws)) n c 0 g ∙ i ∙ moved t, copied_back w ws x xs n c d g ∙ j)
        where
          moved : (t : ℕ) → (a + 1) + t ≡ a + suc t
          moved t = omega arith

      by_test : (c < w) ⊎ (w ≤ c) → ((n : ℕ) → n < sum ws → (t : ℕ) × (t < length xs) × (get_or (copied ws (range_with_len (a + 1) (length ws))) n 0 ≡ (a + 1) + t) × (get_or (copied ws xs) n d ≡ get_or xs t d)) → Item
      by_test (inl h) again = (0, omega arith, copied_front w ws a (range_with_len (a + 1) (length ws)) c 0 h ∙ none, copied_front w ws x xs c d h)
        where
          none : a ≡ a + 0
          none = omega arith
      by_test (inr h) again = deeper (c - w) (omega arith) (again (c - w) (omega (arith, sum_by-cons (λ n. n) w ws)))

  pub copies_items : (ws : List ℕ) (xs : List X) (c : ℕ) (d : X) → length ws ≡ length xs → c < sum ws → (copy_of ws c < length xs) × (get_or (copied ws xs) c d ≡ get_or xs (copy_of ws c) d)
  copies_items ws xs c d e l = found (copied_item ws xs 0 c d e l)
    where
      found : (t : ℕ) × (t < length xs) × (copy_of ws c ≡ 0 + t) × (get_or (copied ws xs) c d ≡ get_or xs t d) → (copy_of ws c < length xs) × (get_or (copied ws xs) c d ≡ get_or xs (copy_of ws c) d)
      found (t, h, i, j) = let same : t ≡ copy_of ws c = omega (arith, i) in (omega (arith, i), j ∙ ap (λ k. get_or xs k d) same)

-- copies of the numbers from a on stand in order
in_order : (ws : List ℕ) (a t n : ℕ) → t < length ws → n < get_or ws t 0 → get_or (copied ws (range_with_len a (length ws))) (sum (take t ws) + n) 0 ≡ a + t
in_order [] a t n l h = absurd (omega arith)
in_order (w ∷ ws) a zero n l h =
    let e : sum (take 0 (w ∷ ws)) + n ≡ n = omega arith in
    ap (λ m. get_or (copied (w ∷ ws) (range_with_len a (length (w ∷ ws)))) m 0) e ∙ copied_front w ws a (range_with_len (a + 1) (length ws)) n 0 h ∙ none
  where
    none : a ≡ a + 0
    none = omega arith
in_order (w ∷ ws) a (suc t) n l h =
    copied_back w ws a (range_with_len (a + 1) (length ws)) (sum (take t ws) + n) (sum (take (suc t) (w ∷ ws)) + n) 0 (omega (arith, sum_by-cons (λ n. n) w (take t ws)))
    ∙ in_order ws (a + 1) t n (omega arith) h ∙ moved
  where
    moved : (a + 1) + t ≡ a + suc t
    moved = omega arith

pub copies_in_order : (ws : List ℕ) (t n : ℕ) → t < length ws → n < get_or ws t 0 → copy_of ws (sum (take t ws) + n) ≡ t
copies_in_order ws t n l h = in_order ws 0 t n l h ∙ none
  where
    none : 0 + t ≡ t
    none = omega arith
