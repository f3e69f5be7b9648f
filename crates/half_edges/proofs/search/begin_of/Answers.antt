use Rattle.half_edges.proofs.Ways.{begins_at, begins_between}
use Rattle.half_edges.proofs.search.begin_of.Goals as goal

pub returns-in-Ok : goal.returns-in-Ok
returns-in-Ok c = begins_at c.args.ways.now c.args.u c.in-Ok.i c.requires c.in-Ok.ensures.found

pub returns-in-Err : goal.returns-in-Err
returns-in-Err c = begins_between c.args.ways.now c.args.u c.in-Err.i c.in-Err.ensures.belongs
