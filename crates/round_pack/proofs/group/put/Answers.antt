use Rattle.round_pack.proofs.Groups.{puts}
use Rattle.round_pack.proofs.group.put.Goals as goal

pub returns : goal.returns
returns c = puts c.args.sets.now.items c.args.before c.args.e c.index_mut-set.result.now c.insert.new.self c.requires c.index_mut-set.ensures.value c.in_ok-insert.ensures.ok
