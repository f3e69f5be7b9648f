use Rattle.std.proofs.Common.{subst}
use Rattle.std.proofs.lemmas.Option.{get_or_from_slice_get}
use Rattle.geo_orient.specs.Reach.{IsInReach}
use Rattle.tri_theory.specs.Points.{origin}
use Rattle.formula_parts.proofs.points.point_at.Goals as goal

pub returns-clause-in_reach : goal.returns-clause-in_reach
returns-clause-in_reach c =
    subst IsInReach (get_or_from_slice_get c.args.inst.now.points c.args.i c.point.result origin c.point.ensures) (c.count.ensures.problem.in_reach c.args.i c.requires)
