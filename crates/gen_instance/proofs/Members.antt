-- The members of lists that are mapped, cut and joined.
use Rattle.std.proofs.Common.{◌≡◌, ◌∙◌, ℕ, ◌+◌, ◌-◌, ◌<◌, ◌≤◌, List, length, map, drop, get_or, Contains, sym, ap, subst, arith, length-drop, get_or-drop}
use Rattle.std.proofs.lemmas.List.{length-map, get_or-map, get_or_default}
use Rattle.std.proofs.lemmas.List.Elements.{Contains-get_or}
use Rattle.planar_law.specs.Chains.{link}

module _ {X Y : Type 0} (f : X → Y) (xs : List X) where
  pub contains_map : (x : X) → Contains xs x → Contains (map f xs) (f x)
  contains_map x (k, l, e) = (k, subst (λ n. k < n) (sym (length-map xs f)) l, get_or-map f xs k x (f x) l ∙ ap f e)

  pub mapped : (d : X) (y : Y) → Contains (map f xs) y → (x : X) × Contains xs x × (f x ≡ y)
  mapped d y (k, l, e) = (get_or xs k d, Contains-get_or xs k d within, sym (get_or-map f xs k d y within) ∙ e)
    where
      within : k < length xs
      within = subst (λ n. k < n) (length-map xs f) l

module _ (xs : List ℕ) (i : ℕ) where
  pub behind : (x : ℕ) → Contains (drop i xs) x → (k : ℕ) × (i ≤ k) × (k < length xs) × (x ≡ link xs k)
  behind x (k, l, e) = (i + k, omega arith, within, sym e ∙ (get_or-drop i xs k x ∙ get_or_default xs (i + k) x 0 within))
    where
      within : i + k < length xs
      within = let h = length-drop i xs in omega (arith, l, h)

  pub is_behind : (k : ℕ) → i ≤ k → k < length xs → Contains (drop i xs) (link xs k)
  is_behind k l m = (k - i, let h = length-drop i xs in omega (arith, l, m, h), get_or-drop i xs (k - i) (link xs k) ∙ (ap (λ n. get_or xs n (link xs k)) same ∙ get_or_default xs k (link xs k) 0 m))
    where
      same : i + (k - i) ≡ k
      same = omega arith
