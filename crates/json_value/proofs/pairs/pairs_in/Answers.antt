use Rattle.std.proofs.Common.{arith}
use Rattle.json_value.specs.Values.{IsPair, IsPairOf, elements}
use Rattle.json_value.proofs.Rows.{step_more, step_other, step_all, one_of, pair_whole, pair_length}
use Rattle.json_value.proofs.pairs.pairs_in.Goals as goal

pub pair_in-requires : goal.pair_in-requires
pair_in-requires c = one_of IsPair c.args.values.now c.loop-value.value-index c.value-item.result c.loop-value-test.true c.value-item.is c.requires

pub loop-value-preserved : goal.loop-value-preserved
loop-value-preserved c =
    let more = step_more IsPairOf elements c.args.values.now c.loop-value.value-index c.value-item.result c.loop-value.pairs c.in-Ok.pair c.loop-value.place 2
    c.loop-value-test.true c.value-item.is c.in-Ok.ensures.ok (pair_whole _ _ c.in-Ok.ensures.ok) (pair_length _ _ c.in-Ok.ensures.ok) c.loop-value.invariant.1 in
    (omega (arith, c.loop-value.invariant.0), rw c.in_ok-push-in-Ok.ensures.ok more)

pub returns-in-Err-clause-other : goal.returns-in-Err-clause-other
returns-in-Err-clause-other c =
    step_other IsPairOf elements c.args.values.now c.loop-value.value-index c.value-item.result c.loop-value.pairs c.loop-value.place c.in-Err.k
    c.loop-value-test.true c.value-item.is c.in-Err.ensures.other c.loop-value.invariant.1

pub returns-clause-ok : goal.returns-clause-ok
returns-clause-ok c = step_all IsPairOf elements c.args.values.now c.loop-value.value-index c.loop-value.pairs c.loop-value.place c.loop-value-test.false c.loop-value.invariant.1
