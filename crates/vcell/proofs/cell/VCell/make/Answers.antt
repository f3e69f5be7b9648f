use Rattle.vcell.proofs.Kept.{starts}
use Rattle.vcell.proofs.cell.VCell.make.Goals as goal

pub new-requires : goal.new-requires
new-requires g c = starts g.V.Grows.entries g.V.Grows.ground _ c.args.value _ _ c.of.ensures c.count-count.ensures c.in_ok-slots.ensures.ok c.requires.0 c.requires.1
