use Rattle.std.proofs.Common.{subst, arith}
use Rattle.std.proofs.lemmas.Result.{IfOk-weaker}
use Rattle.gen_instance.specs.Orders.{AreInOrder}
use Rattle.gen_instance.proofs.Orders.{whole}
use Rattle.gen_instance.proofs.order.order_of.Goals as goal

pub returns : goal.returns
returns c =
    IfOk-weaker c.in_order.result _ _
    (λ v O. whole c.args.points.now c.args.direction.a c.args.direction.b c.loop-i.numbers.items v.items c.loop-i.i c.loop-i.invariant.count c.loop-i.invariant.values (omega arith)
    (subst (λ ns. AreInOrder c.args.points.now c.args.direction.a c.args.direction.b ns v.items) c.as_slice.ensures.value O))
    c.in_order.ensures
