use Rattle.flip_mesh.proofs.Built.{added}
use Rattle.half_edges.proofs.sides.add_way.Goals as goal

pub returns-in_ok-add-in-None : goal.returns-in_ok-add-in-None
returns-in_ok-add-in-None c = added _ _ _ _ c.in_ok-add-in-None.ensures.added
