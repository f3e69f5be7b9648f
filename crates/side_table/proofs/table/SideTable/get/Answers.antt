use Rattle.std.proofs.Common.{List, Contains, sym, subst}
use Rattle.side_table.specs.declared.side.Side.{Side}
use Rattle.side_table.specs.Sides.{HasSide, IsWay}
use Rattle.side_table.specs.Slots.{IsPlace}
use Rattle.side_table.proofs.Places.{got, has_in_slots}
use Rattle.side_table.proofs.table.SideTable.get.Goals as goal

pub returns-in-Some : goal.returns-in-Some
returns-in-Some c =
    let P = subst (λ (ss : List Side). IsPlace ss c.args.u c.args.v c.in-Some.place) c.deref-3.ensures.value c.in-Some.ensures in
    subst (λ (ss : List Side). Contains ss c.index.result.now × IsWay c.index.result.now c.args.u c.args.v) c.self.view_is
    (got c.self.inside.slots.items c.args.u c.args.v c.in-Some.place c.index.result.now P c.index.ensures)

pub returns-in-None : goal.returns-in-None
returns-in-None c h =
    let N = subst (λ (ss : List Side). ¬ HasSide ss c.args.u c.args.v) c.deref-3.ensures.value c.in-None.ensures in
    N (has_in_slots c.self.inside.slots.items c.args.u c.args.v (subst (λ (ss : List Side). HasSide ss c.args.u c.args.v) (sym c.self.view_is) h))
