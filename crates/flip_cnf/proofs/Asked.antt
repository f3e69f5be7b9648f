-- Literals that are put one after the other.
use Rattle.std.proofs.Common.{◌≡◌, List, [], ◌∷◌, ◌++◌, ap, ◌∙◌}

pub five : {X : Type 0} (l0 l1 l2 l3 l4 l5 rest : List X) (a b c d : X) → l0 ≡ [] → l1 ≡ l0 ++ a ∷ [] → l2 ≡ l1 ++ b ∷ [] → l3 ≡ l2 ++ c ∷ [] → l4 ≡ l3 ++ d ∷ [] → l5 ≡ l4 ++ rest → l5 ≡ a ∷ b ∷ c ∷ d ∷ rest
five l0 l1 l2 l3 l4 l5 rest a b c d e0 e1 e2 e3 e4 e5 =
    e5 ∙ ap (λ l. l ++ rest) (e4 ∙ ap (λ l. l ++ d ∷ []) (e3 ∙ ap (λ l. l ++ c ∷ []) (e2 ∙ ap (λ l. l ++ b ∷ []) (e1 ∙ ap (λ l. l ++ a ∷ []) e0))))
