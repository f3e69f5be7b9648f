-- What holds of each item of a list, and of its front, its last item or its halves.
use Rattle.std.proofs.Common.{◌+◌, List, [], ◌∷◌, ◌++◌, length, arith, subst, All, length-append}
use Rattle.std.proofs.Math.ListN.{get_or-append}
use Rattle.std.proofs.lemmas.List.{get_or-append-add}
use Rattle.std.proofs.Math.Seq.{get_or-append_seam}

module _ {A : Type 0} (P : A → Type 0) where
  pub all_front : (xs : List A) (x : A) → All P (xs ++ x ∷ []) → All P xs
  all_front xs x h k d lt = subst P (get_or-append xs (x ∷ []) d k lt) (h k d (omega (arith, length-append xs (x ∷ []))))

  pub all_last : (xs : List A) (x : A) → All P (xs ++ x ∷ []) → P x
  all_last xs x h = subst P (get_or-append_seam xs x [] x) (h (length xs) x (omega (arith, length-append xs (x ∷ []))))

  pub all_left : (xs ys : List A) → All P (xs ++ ys) → All P xs
  all_left xs ys h k d lt = subst P (get_or-append xs ys d k lt) (h k d (omega (arith, length-append xs ys)))

  pub all_right : (xs ys : List A) → All P (xs ++ ys) → All P ys
  all_right xs ys h k d lt = subst P (get_or-append-add xs ys k d) (h (length xs + k) d (omega (arith, length-append xs ys)))
