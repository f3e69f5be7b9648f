use Rattle.std.proofs.Common.{◌≡◌, sym, arith, length}
use Rattle.std.proofs.lemmas.Bool.{eqb-true, eq-eqb}
use Rattle.json_value.proofs.Rows.{two_is_pair, pair_is_two}
use Rattle.json_value.proofs.pairs.is_pair.Goals as goal

pub returns-in-Some : goal.returns-in-Some
returns-in-Some c = (
  λ t. let two : c.len.result ≡ 2 = eqb-true _ _ t in
      let len : length c.in-Some.list.now.items ≡ 2 = omega (arith, two, c.len.ensures, c.in-Some.list.now.ok) in
      two_is_pair _ c.in-Some.list.now.items (sym c.in-Some.ensures) len,
  λ p. let len = pair_is_two _ c.in-Some.list.now.items (sym c.in-Some.ensures) p in
      let two : c.len.result ≡ 2 = omega (arith, len, c.len.ensures, c.in-Some.list.now.ok) in
      eq-eqb _ _ two,
)
