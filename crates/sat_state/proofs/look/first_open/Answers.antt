use Rattle.std.proofs.Common.{◌∙◌}
use Rattle.log_law.specs.Trails.{literals}
use Rattle.sat_state.proofs.Counting.{left_skip, left_first}
use Rattle.sat_state.proofs.look.first_open.Goals as goal

pub returns-then-not-is_false : goal.returns-then-not-is_false
returns-then-not-is_false c = left_first (literals c.args.steps.now.steps) c.args.clause.now c.loop-i.i c.at-l.result.now c.at-l.ensures c.if-not-is_false.ensures c.loop-i.invariant

pub loop-i-preserved : goal.loop-i-preserved
loop-i-preserved c = left_skip (literals c.args.steps.now.steps) c.args.clause.now c.loop-i.i c.at-l.result.now c.at-l.ensures c.if-not-is_false.ensures ∙ c.loop-i.invariant
