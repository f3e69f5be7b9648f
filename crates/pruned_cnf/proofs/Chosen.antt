-- What is made of those elements of a list that pass a test.
use Rattle.std.proofs.Common.{◌≡◌, ◌⊎◌, inl, inr, ℕ, zero, suc, ◌+◌, ◌<◌, ◌≤◌, ◌-◌, Bool, true, false, cond, Some, None, List, [], ◌∷◌, ◌++◌, length, get_or, take, map, refl, sym, ap, ◌∙◌, arith}
use Rattle.std.specs.List.{filter, flat_map}
use Rattle.std.proofs.lemmas.List.{append-nil, take_all}
use Rattle.std.proofs.lemmas.List.Concat.{flat_map_single}
use Rattle.std.proofs.lemmas.List.Elements.{filter_more}
use Rattle.formula_law.proofs.Clauses.{true_or_false}

pub flat_chosen : {X Y : Type 0} (p : X → Bool) (f : X → List Y) (xs : List X) → flat_map f (filter p xs) ≡ flat_map (λ x. cond (p x) (f x) []) xs
flat_chosen p f [] = refl
flat_chosen p f (x ∷ xs) = by_test (true_or_false (p x)) (flat_chosen p f xs)
  where
    by_test : (p x ≡ true) ⊎ (p x ≡ false) → flat_map f (filter p xs) ≡ flat_map (λ x. cond (p x) (f x) []) xs → flat_map f (filter p (x ∷ xs)) ≡ flat_map (λ x. cond (p x) (f x) []) (x ∷ xs)
    by_test (inl e) h = rw e (ap (λ ys. f x ++ ys) h)
    by_test (inr e) h = rw e h

pub chosen : {X Y : Type 0} (p : X → Bool) (g : X → Y) (xs : List X) → map g (filter p xs) ≡ flat_map (λ x. cond (p x) (g x ∷ []) []) xs
chosen p g xs = sym (flat_map_single g (filter p xs)) ∙ flat_chosen p (λ x. g x ∷ []) xs

pub map_one : {X Y : Type 0} (h : X → Y) (x : X) (b : Bool) → map h (cond b (x ∷ []) []) ≡ cond b (h x ∷ []) []
map_one h x true = refl
map_one h x false = refl

-- ---- what is made where a test gives true: of a number that is there
module _ {Y : Type 0} (f : ℕ → List Y) where
  pub there : (b : Bool) (x v : ℕ) → Some v ≡ cond b (Some x) None → cond b (f x) [] ≡ f v
  there true x v e = ap f (let q : x ≡ v = cc in q)
  there false x v e = absurd (cc)

  pub not_there : (b : Bool) (x : ℕ) → None ≡ cond b (Some x) None → cond b (f x) [] ≡ []
  not_there true x e = absurd (cc)
  not_there false x e = refl

-- ---- the first elements of a list, up to one place or a later one
module _ {X : Type 0} (p : X → Bool) (xs : List X) (d : X) (i : ℕ) where
  passed : (k : ℕ) → i + k ≤ length xs → ((j : ℕ) → i ≤ j → j < i + k → p (get_or xs j d) ≡ false) → filter p (take (i + k) xs) ≡ filter p (take i xs)
  passed zero r h = ap (λ m. filter p (take m xs)) (let e : i + 0 ≡ i = omega arith in e)
  passed (suc k) r h =
      ap (λ m. filter p (take m xs)) (let e : i + suc k ≡ (i + k) + 1 = omega arith in e)
      ∙ filter_more p xs (i + k) d (omega arith)
      ∙ ap (λ b. filter p (take (i + k) xs) ++ cond b (get_or xs (i + k) d ∷ []) []) (h (i + k) (omega arith) (omega arith))
      ∙ append-nil (filter p (take (i + k) xs))
      ∙ passed k (omega arith) (λ j a b. h j a (omega arith))

  -- where none between them passes the test
  pub none_between : (m : ℕ) → i ≤ m → m ≤ length xs → ((j : ℕ) → i ≤ j → j < m → p (get_or xs j d) ≡ false) → filter p (take m xs) ≡ filter p (take i xs)
  none_between m l r h =
      let e : i + (m - i) ≡ m = omega arith in
      ap (λ m. filter p (take m xs)) (sym e) ∙ passed (m - i) (omega arith) (λ j a b. h j a (omega arith))

  pub none_after : i ≤ length xs → ((j : ℕ) → i ≤ j → j < length xs → p (get_or xs j d) ≡ false) → filter p xs ≡ filter p (take i xs)
  none_after l h = ap (filter p) (sym (take_all (length xs) xs (omega arith))) ∙ none_between (length xs) l (omega arith) h
