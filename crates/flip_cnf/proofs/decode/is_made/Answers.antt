use Rattle.std.proofs.Common.{◌≡◌, ◌∙◌, ◌+◌, ◌-◌, ◌≤◌, false, length, get_or, sym, ap, arith}
use Rattle.std.proofs.Math.ListN.{get_or-eq_default}
use Rattle.std.proofs.lemmas.Option.{get_or_from_slice_get}
use Rattle.log_law.specs.Clauses.{listed}
use Rattle.flip_cnf.proofs.decode.is_made.Goals as goal

pub returns : goal.returns
returns c =
    let p : c.place-i.result ≡ c.place-i.result + 1 - 1 = omega arith in
    sym (get_or_from_slice_get c.args.truth.now c.place-i.result c.at.result.now false c.at.ensures) ∙ ap (λ k. get_or c.args.truth.now k false) p ∙ ap (listed c.args.truth.now) c.place-i.ensures

pub returns-then-i-len : goal.returns-then-i-len
returns-then-i-len c =
    let p : c.place-i.result ≡ c.place-i.result + 1 - 1 = omega arith in
    let l : length c.args.truth.now ≤ c.place-i.result = omega (arith, c.if-i-len.true, c.len.ensures) in
    sym (get_or-eq_default c.args.truth.now false l) ∙ ap (λ k. get_or c.args.truth.now k false) p ∙ ap (listed c.args.truth.now) c.place-i.ensures
