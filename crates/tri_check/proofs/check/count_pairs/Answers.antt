use Rattle.std.proofs.Common.{◌+◌, ap₂, ◌∙◌, sym}
use Rattle.tri_check.proofs.Made.{sum_more}
use Rattle.tri_check.proofs.check.count_pairs.Goals as goal

pub loop-t-preserved : goal.loop-t-preserved
loop-t-preserved c = c.in_ok-total.ensures.1 ∙ ap₂ ◌+◌ c.loop-t.invariant c.len.ensures ∙ sym (sum_more c.args.inputs.now c.loop-t.t c.at.result.now c.at.ensures)
