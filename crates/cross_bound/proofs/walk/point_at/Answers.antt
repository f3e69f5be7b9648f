use Rattle.std.proofs.Common.{◌≡◌, ◌∙◌, subst, slice_get, Some}
use Rattle.std.proofs.lemmas.Option.{get_or_from_slice_get}
use Rattle.geo_orient.specs.Reach.{IsInReach}
use Rattle.tri_theory.specs.Points.{origin}
use Rattle.cross_bound.proofs.walk.point_at.Goals as goal

pub returns-clause-in_reach : goal.returns-clause-in_reach
returns-clause-in_reach c =
    subst IsInReach
    (get_or_from_slice_get c.args.mesh.now.points c.args.i c.at.result.now origin (subst (λ ps. slice_get ps c.args.i ≡ Some c.at.result.now) (c.deref.ensures ∙ c.points.ensures.points) c.at.ensures))
    (c.points.ensures.triangulation.in_reach c.args.i c.requires)
