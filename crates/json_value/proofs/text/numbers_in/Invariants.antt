use Rattle.std.proofs.Common.{◌≡◌, [], ◌∷◌, map, drop}
use Rattle.serde_json.specs.View.{view}
use Rattle.json_value.specs.Values.{IsWhole, IsNumber}
use Rattle.json_value.proofs.Steps.{Reading}
use Rattle.json_value.proofs.text.numbers_in.Given as goal

-- each value is one number
abbrev pub invariant-loop-value : goal.invariant-loop-value
invariant-loop-value l =
    (l.place ≡ l.value-index) × Reading IsWhole IsNumber (λ d. d ∷ []) (map view l.values) (map view (drop l.value-index l.values)) l.numbers.items l.place
