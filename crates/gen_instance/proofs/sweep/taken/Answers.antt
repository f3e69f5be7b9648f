use Rattle.std.proofs.Common.{subst, sym, IfOk}
use Rattle.std.proofs.lemmas.Result.{IfOk-weaker}
use Rattle.gen_instance.specs.Orders.{AreNamed, AreInOrder}
use Rattle.gen_instance.proofs.Orders.{ends_are, ends_named, ends_taken}
use Rattle.gen_instance.proofs.sweep.taken.Goals as goal

pub in_order-requires-clause-named : goal.in_order-requires-clause-named
in_order-requires-clause-named c =
    subst (AreNamed c.args.points.now)
    (sym (ends_are c.args.rights.now c.args.lefts.now c.new-ends.result.items c.extend_from_slice.new.self.items c.extend_from_slice-2.new.self.items c.as_slice.result.now c.args.i c.args.j c.new-ends.ensures.items c.in_ok-extend_from_slice.ensures.items c.in_ok-extend_from_slice-2.ensures.items c.as_slice.ensures.value))
    (ends_named c.args.points.now c.args.rights.now c.args.lefts.now c.args.i c.args.j c.requires.rights c.requires.lefts)

pub returns : goal.returns
returns c =
    let O : IfOk c.in_order.result (λ v. AreInOrder c.args.points.now c.args.direction.a c.args.direction.b c.as_slice.result.now v.items) = c.in_order.ensures in
    IfOk-weaker c.in_order.result _ _
    (λ v o. ends_taken c.args.points.now c.args.direction.a c.args.direction.b c.args.rights.now c.args.lefts.now c.args.i c.args.j v.items
    (subst (λ ns. AreInOrder c.args.points.now c.args.direction.a c.args.direction.b ns v.items)
    (ends_are c.args.rights.now c.args.lefts.now c.new-ends.result.items c.extend_from_slice.new.self.items c.extend_from_slice-2.new.self.items c.as_slice.result.now c.args.i c.args.j c.new-ends.ensures.items c.in_ok-extend_from_slice.ensures.items c.in_ok-extend_from_slice-2.ensures.items c.as_slice.ensures.value)
    o))
    O
