-- What holds of each view, where one changes, where one is added, and where there is one.
use Rattle.std.proofs.Common.{◌≡◌, ◌≢◌, ℕ, zero, suc, List, [], ◌∷◌, ◌++◌, set, sym, subst, ⊎_elim}
use mathlib.Core.Option.{some, some-injective, some-ne-none}
use lib.ListN.{get_elem?}
use Rattle.atomic_table.proofs.Lists.{at_set, at_snoc}

module _ {A : Type 0} (P : A → Type 0) where
  pub each_set : (vs : List A) (me : ℕ) (w : A) → P w → ((j : ℕ) (v : A) → j ≢ me → get_elem? vs j ≡ some v → P v) → (j : ℕ) (v : A) → get_elem? (set vs me w) j ≡ some v → P v
  each_set vs me w mine others j v e = ⊎_elim (λ (t : (j ≡ me) × (w ≡ v)). subst P t.1 mine) (λ (t : (j ≢ me) × (get_elem? vs j ≡ some v)). others j v t.0 t.1) (at_set vs me j w v e)

  pub each_snoc : (vs : List A) (w : A) → P w → ((j : ℕ) (v : A) → get_elem? vs j ≡ some v → P v) → (j : ℕ) (v : A) → get_elem? (vs ++ w ∷ []) j ≡ some v → P v
  each_snoc vs w mine others j v e = ⊎_elim (others j v) (λ (t : w ≡ v). subst P t mine) (at_snoc vs w v j e)

  pub each_lone : (w : A) → P w → (j : ℕ) (v : A) → get_elem? (w ∷ []) j ≡ some v → P v
  each_lone w h zero v e = subst P (some-injective w v e) h
  each_lone w h (suc j) v e = absurd (some-ne-none v (sym e))
