use Rattle.std.proofs.Common.{◌∙◌, true≢false, sym}
use Rattle.lawson_start.proofs.Sets.{put_in, left_out}
use Rattle.lawson_start.proofs.bad.retest.Goals as goal

pub returns-in_ok-insert : goal.returns-in_ok-insert
returns-in_ok-insert c = put_in _ _ _ _ _ (c.is_bad.ensures.0 c.if-is_bad.true) c.in_ok-insert.ensures

pub returns-else-is_bad : goal.returns-else-is_bad
returns-else-is_bad c = left_out _ _ _ _ _ (λ b. true≢false (sym (c.is_bad.ensures.1 b) ∙ c.if-is_bad.false)) c.remove.ensures
