use Rattle.std.proofs.Common.{arith}
use Rattle.cross_bound.proofs.Counted.{digit_off, few_digits}
use Rattle.cross_bound.proofs.count.digits.Goals as goal

pub overflow_add-digits : goal.overflow_add-digits
overflow_add-digits c = let k = few_digits c.args.n c.loop-rest.digits c.loop-rest.rest c.ranges.n.fits c.loop-rest.invariant in omega (arith, k)

pub loop-rest-preserved : goal.loop-rest-preserved
loop-rest-preserved c = digit_off c.args.n c.loop-rest.rest c.loop-rest.digits c.loop-rest-test.true c.loop-rest.invariant
