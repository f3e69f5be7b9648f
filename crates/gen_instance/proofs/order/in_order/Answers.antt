use Rattle.std.proofs.Common.{◌∙◌, sym, ap, subst, map}
use Rattle.std.proofs.lemmas.List.Filters.{dedup_is}
use Rattle.std.proofs.lemmas.Result.{IfOk-weaker}
use Rattle.gen_instance.specs.declared.order.Key.{Key}
use Rattle.gen_instance.specs.Orders.{AreInOrder}
use Rattle.gen_instance.proofs.Keys.{ordered}
use Rattle.gen_instance.proofs.order.in_order.Goals as goal

pub returns : goal.returns
returns c =
    IfOk-weaker c.numbers_of.result _ _
    (λ v e. subst (AreInOrder c.args.points.now c.args.direction.a c.args.direction.b c.args.numbers.now) (sym (e ∙ ap (map (λ (k : Key). k.number)) c.as_slice.ensures.value))
    (ordered c.args.points.now c.args.direction c.requires.points c.requires.direction c.args.numbers.now c.in_ok-keys.keys.items c.sort_unstable.new.self.items c.dedup.new.self.items c.requires.named c.in_ok-keys.ensures c.sort_unstable.ensures.permutation c.sort_unstable.ensures.sorted
    (dedup_is _ _ _ c.dedup.ensures.filtered)))
    c.numbers_of.ensures
