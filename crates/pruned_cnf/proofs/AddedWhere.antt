-- A clause that is added where a test gives true.
use Rattle.std.proofs.Common.{◌≡◌, ◌<◌, Bool, true, false, cond, List, [], ◌∷◌, ◌++◌, length, sym, ap, ◌∙◌, subst, append_assoc}
use Rattle.std.proofs.lemmas.List.{append-nil}
use Rattle.log_law.specs.Clauses.{Clause, Formula, IsClause}
use Rattle.formula_parts.specs.Building.{adding, Takes}
use Rattle.formula_parts.proofs.Appending.{adding_none, single_fits, single_room}

module _ (made : Formula) (b test : Bool) (C : Clause) (is : test ≡ b) where
  abbrev where_true : List Clause
  where_true = cond b (C ∷ []) []

  takes_it : test ≡ true → Takes made where_true → Takes made (C ∷ [])
  takes_it holds T = subst (λ b. Takes made (cond b (C ∷ []) [])) (sym is ∙ holds) T

  pub fits_where : test ≡ true → Takes made where_true → (c : Clause) → c ≡ C → IsClause made.variables c
  fits_where holds T c e = subst (IsClause made.variables) (sym e) (single_fits made C (takes_it holds T))

  pub room_where : test ≡ true → Takes made where_true → length made.clauses < 2_000_000_000
  room_where holds T = single_room made C (takes_it holds T)

  pub added_where : test ≡ true → (c : Clause) (new : Formula) → c ≡ C → new ≡ adding made (c ∷ []) → new ≡ adding made where_true
  added_where holds c new e h = h ∙ ap (λ c. adding made (c ∷ [])) e ∙ ap (λ b. adding made (cond b (C ∷ []) [])) (sym (sym is ∙ holds))

  pub none_where : test ≡ false → made ≡ adding made where_true
  none_where fails = adding_none made ∙ ap (λ b. adding made (cond b (C ∷ []) [])) (sym (sym is ∙ fails))

-- ---- lists that are put at the end, one after the other
module _ {X : Type 0} where
  pub two_put : (l0 l1 l2 a b : List X) → l1 ≡ l0 ++ a → l2 ≡ l1 ++ b → l2 ≡ l0 ++ (a ++ b)
  two_put l0 l1 l2 a b e f = f ∙ ap (λ l. l ++ b) e ∙ append_assoc l0 a b

  pub four_put : (l0 l1 l2 l3 l4 a b c d : List X) → l1 ≡ l0 ++ a → l2 ≡ l1 ++ b → l3 ≡ l2 ++ c → l4 ≡ l3 ++ d → l4 ≡ l0 ++ (a ++ (b ++ (c ++ (d ++ []))))
  four_put l0 l1 l2 l3 l4 a b c d e f g h = two_put l0 l1 l4 a (b ++ (c ++ (d ++ []))) e (two_put l1 l2 l4 b (c ++ (d ++ [])) f (two_put l2 l3 l4 c (d ++ []) g (h ∙ ap (λ z. l3 ++ z) (sym (append-nil d)))))

  pub five_in_all : (l0 l1 l2 l3 l4 l5 a b c d r : List X) → l0 ≡ [] → l1 ≡ l0 ++ a → l2 ≡ l1 ++ b → l3 ≡ l2 ++ c → l4 ≡ l3 ++ d → l5 ≡ l4 ++ r → l5 ≡ a ++ b ++ c ++ d ++ r
  five_in_all l0 l1 l2 l3 l4 l5 a b c d r z e f g h i =
      i ∙ ap (λ l. l ++ r) (h ∙ ap (λ l. l ++ d) (g ∙ ap (λ l. l ++ c) (f ∙ ap (λ l. l ++ b) (e ∙ ap (λ l. l ++ a) z))))
