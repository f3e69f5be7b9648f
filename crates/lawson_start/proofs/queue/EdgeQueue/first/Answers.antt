use Rattle.lawson_start.proofs.Queues.{least}
use Rattle.lawson_start.proofs.queue.EdgeQueue.first.Goals as goal

pub returns-in-Some-clause-some : goal.returns-in-Some-clause-some
returns-in-Some-clause-some c = rw (← c.self.view_is) (least c.self.inside.edges _ c.in-Some.ensures.member c.in-Some.ensures.least)
