-- A list of tokens, with the number of further ones that it takes without memory.
use Rattle.std.specs.Prelude.{ℕ, List, refl}
use Rattle.std.specs.Coded.{Coded, code_by, coded×, coded_ℕ, coded_list}

pub record Seats (T : Type 0) : Type 0 where
  pub items : List T
  pub spare : ℕ

abbrev pub seats_code : {T : Type 0} → Coded T → Coded (Seats T)
seats_code {T} c = code_by (List T × ℕ) (coded× (coded_list c) coded_ℕ) (λ s. (s.items, s.spare)) (λ p. record { items = p.0; spare = p.1 }) (λ _. refl)
