-- Three names of which no two are equal.
use Rattle.std.proofs.Common.{◌≢◌, ◌↔◌, [], ◌∷◌, arith}
use Rattle.std.proofs.lemmas.List.Elements.{All-nil, All-cons}
use Rattle.std.proofs.lemmas.List.Kept.{AllPairs-cons}
use Rattle.clap.specs.Walk.{Text}
use Rattle.centre_words.specs.Words.{AllDiffer}

differ : (a b c : Text) → a ≢ b → a ≢ c → b ≢ c → AllDiffer (a ∷ b ∷ c ∷ [])
unfolding AllDiffer
differ a b c ab ac bc =
    AllPairs-cons ◌≢◌ a (b ∷ c ∷ []) (All-cons (λ x. a ≢ x) b (c ∷ []) ab (All-cons (λ x. a ≢ x) c [] ac (All-nil (λ x. a ≢ x))))
    (AllPairs-cons ◌≢◌ b (c ∷ []) (All-cons (λ x. b ≢ x) c [] bc (All-nil (λ x. b ≢ x))) (λ i j d lt short. absurd (omega (arith, lt, short))))

-- the names differ where each two of them do
pub three_differ : (a b c : Text) → ((a ≢ b) × (a ≢ c) × (b ≢ c)) ↔ AllDiffer (a ∷ b ∷ c ∷ [])
unfolding AllDiffer
three_differ a b c = (λ d. differ a b c d.0 d.1 d.2, λ d. (d 0 1 [] (omega arith) (omega arith), d 0 2 [] (omega arith) (omega arith), d 1 2 [] (omega arith) (omega arith)))
