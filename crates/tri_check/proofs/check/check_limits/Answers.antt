use Rattle.std.proofs.Common.{refl, length, arith}
use Rattle.tri_check.specs.declared.fault.Bad.TheVariants.{TooManyPoints, TooManyInputs, TooManyPairs}
use Rattle.tri_check.proofs.Order.{first_plain}
use Rattle.tri_check.proofs.PointFaults.{none_before, clear_2, clear_3, limited}
use Rattle.tri_check.proofs.check.check_limits.Goals as goal

pub returns-then-points-gt-MAX_POINTS-clause-err : goal.returns-then-points-gt-MAX_POINTS-clause-err
returns-then-points-gt-MAX_POINTS-clause-err c = first_plain c.args.points.now c.args.inputs.now (TooManyPoints (length c.args.points.now)) 1 refl (none_before _ _) (refl, omega arith)

pub returns-then-len-gt-MAX_INPUTS-clause-err : goal.returns-then-len-gt-MAX_INPUTS-clause-err
returns-then-len-gt-MAX_INPUTS-clause-err c = first_plain c.args.points.now c.args.inputs.now (TooManyInputs c.len-then-len-gt-MAX_INPUTS.result) 2 refl (clear_2 _ _ (omega arith)) (c.len-then-len-gt-MAX_INPUTS.ensures, omega arith)

pub returns-then-count-gt-MAX_PAIRS-clause-err : goal.returns-then-count-gt-MAX_PAIRS-clause-err
returns-then-count-gt-MAX_PAIRS-clause-err c = first_plain c.args.points.now c.args.inputs.now (TooManyPairs c.in-Some.count) 3 refl (clear_3 _ _ (omega arith) (omega arith)) (c.in-Some.ensures, omega arith)

pub returns-else-count-gt-MAX_PAIRS-clause-ok : goal.returns-else-count-gt-MAX_PAIRS-clause-ok
returns-else-count-gt-MAX_PAIRS-clause-ok c = limited _ _ (omega arith) (omega arith) c.in-Some.count c.in-Some.ensures (omega arith)
