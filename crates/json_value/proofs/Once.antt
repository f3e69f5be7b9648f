-- What a value stands for is one thing at most.
use Rattle.std.proofs.Common.{◌≡◌, ◌∙◌, sym, ap, ap₂, refl, subst, ℤ, List, [], ◌∷◌, Some, unwrap_or, slice_index_or}
use Rattle.std.specs.List.{AllZip}
use Rattle.serde_json.specs.Data.{Data}
use Rattle.tri_check.specs.declared.raw.RawPair.{RawPair}
use Rattle.json_value.specs.Values.{IsNumber, IsPairOf, Lists}
use Rattle.json_value.proofs.Steps.{same_list}

pub some_once : {X : Type 0} (x y : X) → Some x ≡ Some y → x ≡ y
some_once x y e = ap (λ o. unwrap_or o x) e

-- a relation that gives each value one thing at most gives each list one list at most
pub zip_once : {X Y : Type 0} (R : X → Y → Type 0) → ((x : X) (y z : Y) → R x y → R x z → y ≡ z) → (xs : List X) (ys zs : List Y) → AllZip R xs ys → AllZip R xs zs → ys ≡ zs
zip_once R once [] [] [] u v = refl
zip_once R once [] (y ∷ ys) zs u v = absurd u
zip_once R once [] [] (z ∷ zs) u v = absurd v
zip_once R once (x ∷ xs) [] zs u v = absurd u
zip_once R once (x ∷ xs) (y ∷ ys) [] u v = absurd v
zip_once R once (x ∷ xs) (y ∷ ys) (z ∷ zs) u v = ap₂ (λ first rest. first ∷ rest) (once x y z u.0 v.0) (zip_once R once xs ys zs u.1 v.1)

pub lists_once : {X : Type 0} (R : Data → X → Type 0) → ((d : Data) (x y : X) → R d x → R d y → x ≡ y) → (d : Data) (xs ys : List X) → Lists R d xs → Lists R d ys → xs ≡ ys
lists_once R once d xs ys (es, l, z) (fs, m, w) = zip_once R once es xs ys z (subst (λ gs. AllZip R gs ys) (sym (same_list d es fs l m)) w)

pub number_once : (d : Data) (z w : ℤ) → IsNumber d z → IsNumber d w → z ≡ w
number_once d z w e f = some_once z w (sym e ∙ f)

pub pair_once : (d : Data) (p q : RawPair) → IsPairOf d p → IsPairOf d q → p ≡ q
pair_once d p q (a, b, l, m, n) (e, f, k, g, h) =
    let same = same_list d (a ∷ b ∷ []) (e ∷ f ∷ []) l k in
    let first : a ≡ e = ap (λ ds. slice_index_or ds 0 a) same in
    let second : b ≡ f = ap (λ ds. slice_index_or ds 1 b) same in
    ap₂ (λ x y. let pair : RawPair = record { a = x; b = y } in pair)
    (number_once a p.a q.a m (subst (λ c. IsNumber c q.a) (sym first) g))
    (number_once b p.b q.b n (subst (λ c. IsNumber c q.b) (sym second) h))
