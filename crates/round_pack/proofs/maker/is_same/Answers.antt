use Rattle.round_pack.proofs.Makers.{same_by_high, same_by_middle, same_by_low}
use Rattle.round_pack.proofs.maker.is_same.Goals as goal

pub returns-then-s-t-2 : goal.returns-then-s-t-2
returns-then-s-t-2 c = same_by_high c.args.s c.args.t c.if-s-t.true c.if-s-t-2.true

pub returns-else-s-t-2 : goal.returns-else-s-t-2
returns-else-s-t-2 c = same_by_middle c.args.s c.args.t c.if-s-t.true c.if-s-t-2.false

pub returns-else-s-t : goal.returns-else-s-t
returns-else-s-t c = same_by_low c.args.s c.args.t c.if-s-t.false
