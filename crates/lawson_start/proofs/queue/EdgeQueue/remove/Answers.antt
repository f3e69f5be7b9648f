use Rattle.lawson_start.proofs.Queues.{removed}
use Rattle.lawson_start.proofs.queue.EdgeQueue.remove.Goals as goal

pub returns : goal.returns
returns c = rw (← c.self.view_is) (removed c.self.inside.edges c.remove.new.self c.args.e c.remove.ensures.updates)
