use Rattle.std.proofs.Common.{take, length, sym, ap, ◌∙◌, arith}
use Rattle.std.proofs.lemmas.List.{length-take, length_push}
use Rattle.log_law.specs.Units.{remaining}
use Rattle.log_law.specs.Trails.{literals}
use Rattle.sat_state.proofs.Counting.{left_skip, left_keep, left_within}
use Rattle.sat_state.proofs.count.count_open.Goals as goal
use Rattle.sat_state.proofs.count.count_open.Goals.{then-not-is_false, else-not-is_false}

pub overflow_add-open : goal.overflow_add-open
overflow_add-open c =
    let w = left_within (literals c.args.steps.now.steps) (take c.loop-i.i c.args.clause.now) in
    let s = length-take c.loop-i.i c.args.clause.now in
    let i = c.loop-i.invariant in
    omega (arith, w, s, i, c.len-i-end.ensures.small, c.len-i-end.ensures.items)

pub loop-i-preserved : goal.loop-i-preserved
loop-i-preserved c =
    elim c.if-not-is_false.branch [
      | then-not-is_false w ↦ let k = ap length (left_keep (literals c.args.steps.now.steps) c.args.clause.now c.loop-i.i c.at.result.now c.at.ensures w.if-not-is_false.ensures) in
          let n = length_push (remaining (literals c.args.steps.now.steps) (take c.loop-i.i c.args.clause.now)) c.at.result.now in
          let i = c.loop-i.invariant in
          let e = w.open-is in
          omega (arith, k, n, i, e)
      | else-not-is_false w ↦ w.open-is ∙ (c.loop-i.invariant ∙ sym (ap length (left_skip (literals c.args.steps.now.steps) c.args.clause.now c.loop-i.i c.at.result.now c.at.ensures w.if-not-is_false.ensures)))
    ]
