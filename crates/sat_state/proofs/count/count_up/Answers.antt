use Rattle.std.proofs.Common.{◌≡◌, ◌+◌, ◌<◌, take, get_or, set, length, sym, subst, arith}
use Rattle.sat_state.specs.Tables.{times}
use Rattle.sat_state.proofs.Counting.{up_more, among}
use Rattle.sat_state.proofs.count.count_up.Goals as goal

pub bounds-left-at : goal.bounds-left-at
bounds-left-at c =
    let a = among c.args.list.now c.loop-k.k c.at.result c.at.ensures (omega (arith, c.loop-k-test.true, c.len-k-end.ensures)) in
    omega (arith, c.requires.within c.at.result (omega (arith, a)), c.loop-k.auto.left)

pub bounds-left-at-in-loop-k : goal.bounds-left-at-in-loop-k
bounds-left-at-in-loop-k c =
    let a = among c.args.list.now c.loop-k.k c.at.result c.at.ensures (omega (arith, c.loop-k-test.true, c.len-k-end.ensures)) in
    omega (arith, c.requires.within c.at.result (omega (arith, a)), c.loop-k.auto.left)

pub overflow_add-left : goal.overflow_add-left
overflow_add-left c =
    let a = among c.args.list.now c.loop-k.k c.at.result c.at.ensures (omega (arith, c.loop-k-test.true, c.len-k-end.ensures)) in
    omega (arith, a, c.loop-k.invariant c.at.result, c.requires.small c.at.result)

pub loop-k-preserved : goal.loop-k-preserved
loop-k-preserved c =
    let b : c.loop-k.k < length c.args.list.now = omega (arith, c.loop-k-test.true, c.len-k-end.ensures) in
    let a = among c.args.list.now c.loop-k.k c.at.result c.at.ensures b in
    let w : c.at.result < length c.loop-k.left = omega (arith, c.requires.within c.at.result (omega (arith, a)), c.loop-k.auto.left) in
    λ d.
    subst (λ x. get_or (set c.loop-k.left x (get_or c.loop-k.left x 0 + 1)) d 0 ≡ get_or c.args.left.now d 0 + times d (take (c.loop-k.k + 1) c.args.list.now)) (sym c.at.ensures)
    (up_more c.args.left.now c.loop-k.left c.args.list.now c.loop-k.k d b (subst (λ x. x < length c.loop-k.left) c.at.ensures w) c.loop-k.invariant)
