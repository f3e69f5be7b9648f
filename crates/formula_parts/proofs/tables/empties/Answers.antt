use Rattle.std.proofs.Common.{◌≡◌, ◌*◌, length, arith}
use Rattle.formula_parts.specs.Tables.{IsEmptyOfPoints}
use Rattle.formula_parts.proofs.Entries.{upto_more, table_all}
use Rattle.formula_parts.proofs.tables.empties.Goals as goal

pub loop-i-preserved : goal.loop-i-preserved
loop-i-preserved c = upto_more (IsEmptyOfPoints c.args.inst.now.points) (length c.args.inst.now.points) c.loop-i.table.items c.push.new.self.items c.loop-i.i c.empty_at.result c.loop-i.invariant c.in_ok-push.ensures.items c.empty_at.ensures

pub returns : goal.returns
returns c =
    let e : c.loop-i.i ≡ length c.args.inst.now.points * 4096 = omega (arith, c.count-i-end.ensures.count) in
    table_all (IsEmptyOfPoints c.args.inst.now.points) (length c.args.inst.now.points) c.loop-i.table.items c.loop-i.i c.requires.few e c.loop-i.invariant
