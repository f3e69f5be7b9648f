-- The first of a list with the greatest value, with one element more.
use Rattle.std.proofs.Common.{◌≡◌, ◌⊎◌, inl, inr, ◌∙◌, ℕ, zero, suc, ◌<◌, ◌≤◌, List, [], ◌∷◌, ◌++◌, length, map, Contains, Some, slice_get, refl, sym, ap, subst, append_assoc, arith}
use Rattle.std.proofs.lemmas.List.{take-append-le, take_all, map-append}
use Rattle.std.proofs.lemmas.List.Elements.{Contains-push_cases}
use Rattle.std.proofs.lemmas.Option.{slice_get_within}
use Rattle.cross_bound.specs.Best.{IsFirstGreatest}

module _ {X : Type 0} where
  end_there : (xs : List X) (y : X) → slice_get (xs ++ y ∷ []) (length xs) ≡ Some y
  end_there [] y = refl
  end_there (x ∷ xs) y = end_there xs y

  still_there : (xs : List X) (i : ℕ) (x y : X) → slice_get xs i ≡ Some x → slice_get (xs ++ y ∷ []) i ≡ Some x
  still_there [] i x y h = absurd (cc)
  still_there (z ∷ xs) zero x y h = h
  still_there (z ∷ xs) (suc i) x y h = still_there xs i x y h

  module _ (f : X → ℕ) where
    pub only : (y : X) → IsFirstGreatest f ([] ++ y ∷ []) y
    only y = record { place = 0; there = refl; greatest = λ z h. by_cases z (Contains-push_cases [] y z h); first = λ z (k, l, h). absurd (omega arith) }
      where
        by_cases : (z : X) → Contains [] z ⊎ (y ≡ z) → f z ≤ f y
        by_cases z (inl (k, l, h)) = absurd (omega arith)
        by_cases z (inr e) = let i : f z ≡ f y = ap f (sym e) in omega arith

    pub more_new : (xs : List X) (x y : X) → IsFirstGreatest f xs x → f x < f y → IsFirstGreatest f (xs ++ y ∷ []) y
    more_new xs x y B l = record {
      place = length xs;
      there = end_there xs y;
      greatest = λ z h. by_cases z (Contains-push_cases xs y z h);
      first = λ z h. below z (subst (λ zs. Contains zs z) (take-append-le (length xs) xs (y ∷ []) (omega arith) ∙ take_all (length xs) xs (omega arith)) h);
    }
      where
        below : (z : X) → Contains xs z → f z < f y
        below z h = let g = B.greatest z h in omega arith

        by_cases : (z : X) → Contains xs z ⊎ (y ≡ z) → f z ≤ f y
        by_cases z (inl h) = let g = below z h in omega arith
        by_cases z (inr e) = let i : f z ≡ f y = ap f (sym e) in omega arith

    pub more_old : (xs : List X) (x y : X) → IsFirstGreatest f xs x → f y ≤ f x → IsFirstGreatest f (xs ++ y ∷ []) x
    more_old xs x y B l = record {
      place = B.place;
      there = still_there xs B.place x y B.there;
      greatest = λ z h. by_cases z (Contains-push_cases xs y z h);
      first = λ z h. B.first z (subst (λ zs. Contains zs z) (take-append-le B.place xs (y ∷ []) (let m = slice_get_within xs B.place x B.there in omega arith)) h);
    }
      where
        by_cases : (z : X) → Contains xs z ⊎ (y ≡ z) → f z ≤ f x
        by_cases z (inl h) = B.greatest z h
        by_cases z (inr e) = let i : f z ≡ f y = ap f (sym e) in omega arith

pub mapped_more : {X Y : Type 0} (g : Y → X) (xs : List X) (ys : List Y) (y : Y) → xs ++ map g (ys ++ y ∷ []) ≡ (xs ++ map g ys) ++ g y ∷ []
mapped_more g xs ys y = ap (λ zs. xs ++ zs) (map-append g ys (y ∷ [])) ∙ sym (append_assoc xs (map g ys) (g y ∷ []))
