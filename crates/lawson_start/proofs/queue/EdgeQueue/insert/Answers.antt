use Rattle.lawson_start.proofs.Queues.{added}
use Rattle.lawson_start.proofs.queue.EdgeQueue.insert.Goals as goal

pub returns : goal.returns
returns c = rw (← c.self.view_is) (added c.self.inside.edges c.insert.new.self c.args.e c.in_ok-insert.ensures.updates)
