use Rattle.std.proofs.Common.{sum, sym, ap, ◌∙◌, subst, arith}
use Rattle.tri_check.specs.declared.fault.Bad.TheVariants.{WeightSum}
use Rattle.tri_check.specs.Stages.{IsFirstOfWeights}
use Rattle.tri_check.proofs.Weighed.{first_range, first_sum, weighed}
use Rattle.tri_check.proofs.weights.check_weights.Goals as goal

pub returns-in-Some-clause-err : goal.returns-in-Some-clause-err
returns-in-Some-clause-err c = first_range c.args.weights.now c.in-Some.t c.in-Some.ensures

pub returns-then-total-gt-MAX_SUM-clause-err : goal.returns-then-total-gt-MAX_SUM-clause-err
returns-then-total-gt-MAX_SUM-clause-err c = let e = c.sum_of-total.ensures ∙ ap sum c.as_slice.ensures in subst (λ n. IsFirstOfWeights c.args.weights.now (WeightSum n)) (sym e) (first_sum c.args.weights.now c.in_ok-numbers.numbers c.in_default.ensures c.in_ok-numbers.ensures (let l = c.if-total-gt-MAX_SUM.true in omega (arith, e)))

pub returns-clause-ok : goal.returns-clause-ok
returns-clause-ok c = let e = c.sum_of-total.ensures ∙ ap sum c.as_slice.ensures in weighed c.args.weights.now c.in_ok-numbers.numbers c.in_default.ensures c.in_ok-numbers.ensures (let l = c.if-total-gt-MAX_SUM.false in omega (arith, e))
