use Rattle.std.proofs.Common.{◌∙◌, ap}
use Rattle.side_table.specs.Slots.{in_order}
use Rattle.side_table.proofs.Orders.{ordered_is}
use Rattle.side_table.proofs.table.SideTable.of.Goals as goal

pub returns : goal.returns
returns c = ap in_order c.in_ok-heads.ensures.same ∙ ordered_is c.args.sides.now c.requires
