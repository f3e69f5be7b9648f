use Rattle.flip_mesh.proofs.Built.{begins_at, begins_between}
use Rattle.flip_mesh.proofs.search.begin_of.Goals as goal

pub returns-in-Ok : goal.returns-in-Ok
returns-in-Ok c = begins_at _ _ _ c.requires c.in-Ok.ensures.found

pub returns-in-Err : goal.returns-in-Err
returns-in-Err c = begins_between _ _ _ c.in-Err.ensures.belongs
