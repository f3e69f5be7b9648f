use Rattle.std.proofs.Common.{◌↔◌, Contains, sym, subst, arith}
use Rattle.std.specs.Bool.{IsTrue}
use Rattle.edge_table.specs.declared.edge.Edge.{Edge}
use Rattle.edge_table.proofs.Edges.{pair}
use Rattle.tri_check.specs.Layouts.{Layout}
use Rattle.flip_mesh.specs.Sides.{edges_of}
use Rattle.flip_mesh.proofs.Meshes.{has_answer}
use Rattle.flip_mesh.proofs.mesh.Mesh.has.Goals as goal

pub returns : goal.returns
returns c =
    subst (λ (v : Layout). IsTrue c.is_some.result ↔ Contains v.edges c.args.e) c.self.view_is
    (subst (λ (e : Edge). IsTrue c.is_some.result ↔ Contains (edges_of c.self.inside.sides) e) (pair c.low.ensures.low c.high.ensures.high)
    (subst (λ b. IsTrue b ↔ Contains (edges_of c.self.inside.sides) (c.low.result, c.high.result)) (sym c.is_some.ensures)
    (has_answer c.self.inside.points.value c.self.inside.sides c.self.invariant c.low.result c.high.result c.get.result (omega arith) c.get.ensures)))
