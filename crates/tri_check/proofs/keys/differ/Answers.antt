use Rattle.tri_check.proofs.KeyOrder.{distinct_by}
use Rattle.tri_check.proofs.keys.differ.Goals as goal

pub returns : goal.returns
returns c = λ h. distinct_by c.args.points.now c.args.keys.now c.args.order.now c.args.ranks.now c.requires.keys (c.ascend.ensures c.if-not-ascend.false) (c.all_stand.ensures.within h) (c.all_stand.ensures.there h)
