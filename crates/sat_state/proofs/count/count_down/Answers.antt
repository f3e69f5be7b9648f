use Rattle.std.proofs.Common.{◌≡◌, ◌+◌, ◌-◌, ◌≤◌, ◌<◌, take, get_or, set, length, sym, subst, arith}
use Rattle.sat_state.specs.Tables.{times}
use Rattle.sat_state.proofs.Counting.{down_more, down_read, counted_within}
use Rattle.sat_state.proofs.count.count_down.Goals as goal

pub overflow_sub-left : goal.overflow_sub-left
overflow_sub-left c = down_read c.args.left.now c.loop-k.left c.args.list.now c.loop-k.k c.at.result c.at.ensures (omega (arith, c.loop-k-test.true, c.len-k-end.ensures)) c.requires c.loop-k.invariant

pub bounds-left-at : goal.bounds-left-at
bounds-left-at c =
    counted_within c.loop-k.left c.at.result (down_read c.args.left.now c.loop-k.left c.args.list.now c.loop-k.k c.at.result c.at.ensures (omega (arith, c.loop-k-test.true, c.len-k-end.ensures)) c.requires c.loop-k.invariant)

pub bounds-left-at-in-loop-k : goal.bounds-left-at-in-loop-k
bounds-left-at-in-loop-k c =
    counted_within c.loop-k.left c.at.result (down_read c.args.left.now c.loop-k.left c.args.list.now c.loop-k.k c.at.result c.at.ensures (omega (arith, c.loop-k-test.true, c.len-k-end.ensures)) c.requires c.loop-k.invariant)

pub loop-k-preserved : goal.loop-k-preserved
loop-k-preserved c =
    let b : c.loop-k.k < length c.args.list.now = omega (arith, c.loop-k-test.true, c.len-k-end.ensures) in
    let one = down_read c.args.left.now c.loop-k.left c.args.list.now c.loop-k.k c.at.result c.at.ensures b c.requires c.loop-k.invariant in
    λ d.
    subst (λ x. get_or c.args.left.now d 0 ≡ get_or (set c.loop-k.left x (get_or c.loop-k.left x 0 - 1)) d 0 + times d (take (c.loop-k.k + 1) c.args.list.now)) (sym c.at.ensures)
    (down_more c.args.left.now c.loop-k.left c.args.list.now c.loop-k.k d b (subst (λ x. 1 ≤ get_or c.loop-k.left x 0) c.at.ensures one) c.loop-k.invariant)
