use Rattle.std.proofs.Common.{arith}
use Rattle.pruned_cnf.specs.Sizes.{flip_count, change_count}
use Rattle.pruned_cnf.proofs.LayerSizes.{sum_next}
use Rattle.pruned_cnf.proofs.sizing.rounds_from.Goals as goal

pub loop-i-preserved : goal.loop-i-preserved
loop-i-preserved c =
    let s = sum_next (flip_count c.args.query.now) c.args.t c.loop-i.i in
    let r = sum_next (change_count c.args.query.now) c.args.t c.loop-i.i in
    (omega (arith, s, r, c.loop-i.invariant.0, c.flips_at.ensures.count, c.changes_at.ensures.count), omega (arith, c.loop-i.invariant.1, c.flips_at.ensures.few, c.changes_at.ensures.few))
