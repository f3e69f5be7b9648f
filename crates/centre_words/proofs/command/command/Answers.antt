use Rattle.centre_words.proofs.Rows.{row_goes_on}
use Rattle.centre_words.proofs.command.command.Goals as goal

pub loop-row-preserved : goal.loop-row-preserved
loop-row-preserved c =
    row_goes_on _ _ _ _ c.rows-row-items.result.now c.loop-row.row-index _ c.loop-row-test.true c.in_ok-below.ensures.app (c.in_ok-command.ensures.shape c.in_ok-below.ensures.local) c.loop-row.invariant
