use Rattle.std.proofs.Common.{arith}
use Rattle.pruned_cnf.specs.Sizes.{crossing_count}
use Rattle.pruned_cnf.proofs.LayerSizes.{sum_next}
use Rattle.pruned_cnf.proofs.sizing.crossings_from.Goals as goal

pub loop-i-preserved : goal.loop-i-preserved
loop-i-preserved c =
    let s = sum_next (crossing_count c.args.query.now) c.args.t c.loop-i.i in
    (omega (arith, s, c.loop-i.invariant.0, c.crossings_at-count.ensures.count), omega (arith, c.loop-i.invariant.1, c.crossings_at-count.ensures.few))
