use Rattle.std.proofs.Common.{sym, subst, IsPermutation, arith}
use Rattle.std.proofs.lemmas.Result.{IfOk-weaker}
use Rattle.plan_moves.specs.Rounds.{HasEachNeighbour}
use Rattle.plan_moves.proofs.Adding.{neighbours_more, neighbours_all}
use Rattle.plan_moves.proofs.greedy.neighbours.Goals as goal

pub loop-e-preserved : goal.loop-e-preserved
loop-e-preserved c = neighbours_more c.args.mesh.now.points c.args.mesh.now.edges _ c.loop-e.sides.items c.add_sides.new.sides.items c.loop-e.e-index c.e-item.result c.loop-e-test.true c.e-item.is c.loop-e.invariant c.in_ok-add_sides.ensures

pub returns : goal.returns
returns c =
    IfOk-weaker c.set_of.result _ _
    (λ edges same. subst (λ round. HasEachNeighbour c.args.mesh.now.points c.args.mesh.now.edges round edges) c.as_slice-e-items.ensures
    (neighbours_all c.args.mesh.now.points c.args.mesh.now.edges c.as_slice-e-items.result.now c.loop-e.sides.items c.deref.result.now edges c.loop-e.e-index (omega (arith, c.loop-e-test.false)) c.loop-e.invariant
    (subst (IsPermutation c.loop-e.sides.items) (sym c.deref.ensures.value) c.in_ok-sort.ensures.permutation) same))
    c.set_of.ensures
