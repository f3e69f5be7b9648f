use Rattle.std.proofs.Common.{List, sym, subst}
use Rattle.std.proofs.lemmas.Result.{IfOk-weaker}
use Rattle.side_table.specs.declared.side.Side.{Side}
use Rattle.side_table.specs.Sides.{HasSide, AddsSide}
use Rattle.side_table.specs.Slots.{AreDistinct, in_order}
use Rattle.side_table.proofs.Places.{has_in_order}
use Rattle.side_table.proofs.Orders.{adds}
use Rattle.side_table.proofs.table.SideTable.add.Goals as goal

pub insert-requires-clause-fresh : goal.insert-requires-clause-fresh
insert-requires-clause-fresh c h = c.requires (subst (λ (ss : List Side). HasSide ss c.args.t.from c.args.t.to) c.self.view_is (has_in_order c.self.inside.slots.items c.args.t.from c.args.t.to h))

pub returns-clause-added : goal.returns-clause-added
returns-clause-added c =
    IfOk-weaker c.insert.result _ _
    (λ v e.
    subst (λ (ss : List Side). AddsSide ss (in_order c.insert.new.slots.items) c.args.t) c.self.view_is
    (subst (λ (ss : List Side). AddsSide (in_order c.self.inside.slots.items) (in_order ss) c.args.t) (sym e)
    (adds c.self.inside.slots.items c.args.t (subst AreDistinct e c.insert.ensures.kept.distinct)))) c.insert.ensures.added
