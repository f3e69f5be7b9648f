use Rattle.std.proofs.Common.{sym}
use Rattle.json_value.proofs.Rows.{pair_is_two, first_other, second_other}
use Rattle.json_value.proofs.pairs.pair_in.Goals as goal

pub returns-in_default-as_i64-clause-other : goal.returns-in_default-as_i64-clause-other
returns-in_default-as_i64-clause-other c =
    let is = sym c.in-Some.ensures in
    first_other _ c.in-Some.list.now.items c.index.result.now is (pair_is_two _ _ is c.requires) c.index.ensures (sym c.in_default-as_i64.ensures)

pub returns-in_default-as_i64-2-clause-other : goal.returns-in_default-as_i64-2-clause-other
returns-in_default-as_i64-2-clause-other c =
    let is = sym c.in-Some.ensures in
    second_other _ c.in-Some.list.now.items c.index.result.now c.index-2.result.now c.in-Some-as_i64.a is (pair_is_two _ _ is c.requires) c.index.ensures c.index-2.ensures
    (sym c.in-Some-as_i64.ensures) (sym c.in_default-as_i64-2.ensures)
