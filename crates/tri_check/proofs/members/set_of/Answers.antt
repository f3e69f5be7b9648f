use Rattle.std.proofs.Common.{arith}
use Rattle.tri_check.proofs.Pairs.{first_more}
use Rattle.tri_check.proofs.members.set_of.Goals as goal

pub loop-i-preserved : goal.loop-i-preserved
loop-i-preserved c = first_more c.args.items.now c.loop-i.edges c.insert.new.self c.loop-i.i c.index-items-i.result (omega arith) c.loop-i.invariant c.in_ok-insert.ensures.ok c.in_ok-insert.ensures.ascending c.index-items-i.is
