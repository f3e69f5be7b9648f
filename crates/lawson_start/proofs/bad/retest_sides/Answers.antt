use Rattle.lawson_start.proofs.Sets.{sides_tested}
use Rattle.lawson_start.proofs.bad.retest_sides.Goals as goal

pub returns : goal.returns
returns c =
    sides_tested _ _ _ _ _ _ _ c.args.q c.in_ok-retest_between.ensures c.in_ok-retest_between-2.ensures c.in_ok-retest_between-3.ensures c.in_ok-retest_between-4.ensures
