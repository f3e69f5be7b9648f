use Rattle.std.proofs.Common.{◌∙◌, ◌≤◌, false, length, get_or, sym, ap, arith}
use Rattle.std.proofs.Math.ListN.{get_or-eq_default}
use Rattle.std.proofs.lemmas.Option.{get_or_from_slice_get}
use Rattle.proof_tests.proofs.formulas.value.Goals as goal

pub returns : goal.returns
returns c = sym (get_or_from_slice_get c.args.truth.now c.saturating_sub-i.result c.at.result.now false c.at.ensures) ∙ ap (λ k. get_or c.args.truth.now k false) c.saturating_sub-i.ensures

pub returns-then-i-len : goal.returns-then-i-len
returns-then-i-len c =
    let l : length c.args.truth.now ≤ c.saturating_sub-i.result = omega (arith, c.if-i-len.true, c.len.ensures) in
    sym (get_or-eq_default c.args.truth.now false l) ∙ ap (λ k. get_or c.args.truth.now k false) c.saturating_sub-i.ensures
