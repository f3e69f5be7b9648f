use Rattle.std.proofs.Common.{◌<◌, length, sym, subst}
use Rattle.tri_theory.specs.Triangulations.{AreJoined}
use Rattle.tri_check.specs.Layouts.{Layout}
use Rattle.flip_mesh.proofs.Meshes.{some_side, near_answer}
use Rattle.flip_mesh.proofs.mesh.Mesh.near.Goals as goal

pub unreachable-requires : goal.unreachable-requires
unreachable-requires c =
    some_side _ _ c.self.invariant c.args.u (subst (λ (v : Layout). c.args.u < length v.points) (sym c.self.view_is) c.requires) c.in-None.ensures

pub returns : goal.returns
returns c =
    subst (λ (v : Layout). AreJoined v.edges c.args.u c.in-Some.s.to) c.self.view_is
    (near_answer _ _ c.self.invariant c.args.u c.in-Some.s c.in-Some.ensures.0 c.in-Some.ensures.1)
