use Rattle.std.proofs.Common.{◌∙◌}
use Rattle.flip_mesh.proofs.Whole.{made, seen}
use Rattle.flip_mesh.proofs.mesh.Mesh.of.Goals as goal

pub invariant_of-result : goal.invariant_of-result
invariant_of-result c =
    made c.args.t.now c.in_ok-points.points.value c.in_ok-items.items.items c.in_ok-sides.sides (c.in_ok-points.ensures.cases ∙ c.points.ensures) (c.in_ok-sides.ensures ∙ c.deref.ensures.value) c.len.ensures.triangulation c.in_ok-items.ensures.ways c.in_ok-items.ensures.apexes

pub returns : goal.returns
returns c =
    seen c.args.t.now c.in_ok-points.points.value c.in_ok-items.items.items c.in_ok-sides.sides (c.in_ok-points.ensures.cases ∙ c.points.ensures) (c.in_ok-sides.ensures ∙ c.deref.ensures.value) c.len.ensures.triangulation c.in_ok-items.ensures.ways
