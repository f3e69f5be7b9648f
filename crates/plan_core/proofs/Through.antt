-- Lists whose elements change one after the other.
use Rattle.std.proofs.Common.{◌≡◌, ◌∙◌, ℕ, ◌+◌, ◌<◌, ◌≤◌, List, [], ◌∷◌, ◌++◌, length, get_or, set, take, drop, suc, Some, slice_get, refl, sym, ap, subst, arith}
use Rattle.std.specs.List.{AllZip}
use Rattle.std.proofs.lemmas.List.{take_more, take_more_set, take_all, take-append-drop, get_or-drop, drop-set-lt, length-set}
use Rattle.std.proofs.lemmas.List.Elements.{AllZip-push}
use Rattle.std.proofs.lemmas.Option.{get_or_from_slice_get}
use Rattle.std.proofs.Math.Seq.{drop-cons}

-- the first i elements of two lists are related, and the others are the same
pub record IsThrough {X : Type 0} (R : X → X → Type 0) (i : ℕ) (old new : List X) : Type 0 where
  pub done : AllZip R (take i old) (take i new)
  pub rest : drop i new ≡ drop i old
  pub long : length new ≡ length old

module _ {X : Type 0} (R : X → X → Type 0) where
  pub begun : (xs : List X) → IsThrough R 0 xs xs
  begun xs = record { done = tt; rest = refl; long = refl }

  -- the next element is still the old one
  pub still : (i : ℕ) (old new : List X) (d : X) → IsThrough R i old new → get_or new i d ≡ get_or old i d
  still i old new d T = sym (here new) ∙ (ap (λ xs. get_or xs 0 d) T.rest ∙ here old)
    where
      plain : i + 0 ≡ i
      plain = omega arith

      here : (xs : List X) → get_or (drop i xs) 0 d ≡ get_or xs i d
      here xs = get_or-drop i xs 0 d ∙ ap (λ n. get_or xs n d) plain

  tail : (i : ℕ) (xs ys : List X) (d : X) → length ys ≡ length xs → i < length xs → drop i ys ≡ drop i xs → drop (i + 1) ys ≡ drop (i + 1) xs
  tail i xs ys d l h e = shorter (drop (i + 1) ys) (drop (i + 1) xs) (get_or ys i d) (get_or xs i d) (sym (apart ys (omega arith)) ∙ (e ∙ apart xs h))
    where
      next : suc i ≡ i + 1
      next = omega arith

      apart : (zs : List X) → i < length zs → drop i zs ≡ get_or zs i d ∷ drop (i + 1) zs
      apart zs k = drop-cons zs i d k ∙ ap (λ n. get_or zs i d ∷ drop n zs) next

      shorter : (us vs : List X) (a b : X) → a ∷ us ≡ b ∷ vs → us ≡ vs
      shorter us vs a b k = ap (drop 1) k

  pub on : (i : ℕ) (old new : List X) (x y : X) → IsThrough R i old new → i < length new → slice_get new i ≡ Some x → R x y → IsThrough R (i + 1) old (set new i y)
  on i old new x y T h s r = record {
    done = subst (λ xs. AllZip R xs (take (i + 1) (set new i y))) (sym (take_more old i x (omega (arith, T.long, h)))) (subst (λ ys. AllZip R (take i old ++ get_or old i x ∷ []) ys) (sym (take_more_set new i y h)) (AllZip-push R (take i old) (take i new) (get_or old i x) y T.done
        (subst (λ z. R z y) (sym (get_or_from_slice_get new i x x s) ∙ still i old new x T) r)));
    rest = drop-set-lt (i + 1) new i y (omega arith) ∙ tail i old new x T.long (omega (arith, T.long, h)) T.rest;
    long = length-set new i y ∙ T.long;
  }

  pub whole : (i : ℕ) (old new : List X) → IsThrough R i old new → length new ≤ i → AllZip R old new
  whole i old new T h = subst (λ xs. AllZip R xs new) (take_all i old (omega (arith, T.long, h))) (subst (AllZip R (take i old)) (take_all i new h) T.done)

  module _ (same : (x : X) → R x x) where
    itself : (xs : List X) → AllZip R xs xs
    itself [] = tt
    itself (x ∷ xs) = (same x, itself xs)

    then : (us vs cs ds : List X) → AllZip R us vs → AllZip R cs ds → AllZip R (us ++ cs) (vs ++ ds)
    then [] [] cs ds z w = w
    then [] (v ∷ vs) cs ds z w = absurd z
    then (u ∷ us) [] cs ds z w = absurd z
    then (u ∷ us) (v ∷ vs) cs ds z w = (z.0, then us vs cs ds z.1 w)

    -- the elements so far are related, and the others to themselves
    pub partly : (i : ℕ) (old new : List X) → IsThrough R i old new → AllZip R old new
    partly i old new T = subst (λ xs. AllZip R xs new) (take-append-drop i old) (subst (AllZip R (take i old ++ drop i old)) (take-append-drop i new) (then (take i old) (take i new) (drop i old) (drop i new) T.done (subst (AllZip R (drop i old)) (sym T.rest) (itself (drop i old)))))
