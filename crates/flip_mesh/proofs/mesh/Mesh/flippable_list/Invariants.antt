use Rattle.flip_mesh.proofs.Listed.{Listed}
use Rattle.flip_mesh.proofs.mesh.Mesh.flippable_list.Given as goal

abbrev pub invariant-loop-i : goal.invariant-loop-i
invariant-loop-i l = Listed l.self.points l.self.edges l.sides.items l.list l.i
