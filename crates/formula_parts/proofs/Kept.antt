-- What is kept of a list, one element after the other.
use Rattle.std.proofs.Common.{◌≡◌, ℕ, ◌+◌, ◌<◌, Bool, true, false, List, [], ◌∷◌, ◌++◌, length, get_or, take, map, refl, ap, ◌∙◌}
use Rattle.std.specs.List.{filter}
use Rattle.std.proofs.lemmas.List.{take_more, append-nil, map-append}
use Rattle.std.proofs.lemmas.List.Elements.{filter-append}

module _ {X Y : Type 0} (h : X → Y) (p : X → Bool) (xs : List X) (n : ℕ) (d : X) (l : n < length xs) where
  abbrev pub so_far : ℕ → List Y
  so_far n = map h (filter p (take n xs))

  step : so_far (n + 1) ≡ so_far n ++ map h (filter p (get_or xs n d ∷ []))
  step = ap (λ ys. map h (filter p ys)) (take_more xs n d l) ∙ ap (map h) (filter-append p (take n xs) (get_or xs n d ∷ [])) ∙ map-append h (filter p (take n xs)) (filter p (get_or xs n d ∷ []))

  alone : (x : X) → p x ≡ true → map h (filter p (x ∷ [])) ≡ h x ∷ []
  alone x e = rw e refl

  none : (x : X) → p x ≡ false → map h (filter p (x ∷ [])) ≡ []
  none x e = rw e refl

  pub kept : p (get_or xs n d) ≡ true → so_far (n + 1) ≡ so_far n ++ h (get_or xs n d) ∷ []
  kept e = step ∙ ap (λ ys. so_far n ++ ys) (alone (get_or xs n d) e)

  pub skipped : p (get_or xs n d) ≡ false → so_far (n + 1) ≡ so_far n
  skipped e = step ∙ ap (λ ys. so_far n ++ ys) (none (get_or xs n d) e) ∙ append-nil (so_far n)
