use Rattle.std.proofs.Common.{◌∙◌, ◌<◌, sym, subst}
use Rattle.std.proofs.lemmas.List.{get_or_default}
use Rattle.gen_instance.proofs.Passing.{some_first, begins}
use Rattle.gen_instance.proofs.sweep.sweep_along.Goals as goal

pub index-requires : goal.index-requires
index-requires c = subst (λ n. 0 < n) (sym c.in_ok-order.order.ok.0) (some_first c.args.points.now c.args.direction.a c.args.direction.b c.in_ok-order.order.items c.requires.points c.in_ok-order.ensures)

pub loop-place-init : goal.loop-place-init
loop-place-init c =
    begins c.args.points.now c.args.direction.a c.args.direction.b c.in_ok-order.order.items c.index.result.now c.in_ok-sweep.sweep c.requires.points c.requires.direction c.in_ok-order.ensures
    (some_first c.args.points.now c.args.direction.a c.args.direction.b c.in_ok-order.order.items c.requires.points c.in_ok-order.ensures)
    (c.index.ensures ∙ get_or_default c.in_ok-order.order.items 0 c.index.result.now 0 (some_first c.args.points.now c.args.direction.a c.args.direction.b c.in_ok-order.order.items c.requires.points c.in_ok-order.ensures)) c.in_ok-sweep.ensures.pairs c.in_ok-sweep.ensures.rights c.in_ok-sweep.ensures.lefts
