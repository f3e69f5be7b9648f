-- An answer that is there exactly where something holds.
use Rattle.std.proofs.Common.{◌↔◌, Option, Some, None, IsTrue, refl}
use Rattle.std.specs.Option.{IfSome, IfNone, is_some}

pub decided : {X : Type 0} (r : Option X) (P : Type 0) → IfNone r (¬ P) → IfSome r (λ _. P) → IsTrue (is_some r) ↔ P
decided None P none some = (λ h. absurd (cc), λ p. absurd (none p))
decided (Some x) P none some = (λ _. some, λ _. refl)
