use Rattle.lawson_start.proofs.Corners.{a_in, b_in, c_in, d_in}
use Rattle.lawson_start.proofs.bad.circle_of.Goals as goal

pub point_at-requires : goal.point_at-requires
point_at-requires c = let I = c.points.ensures.triangulation in a_in _ I.placed _ I.triangulation _ _ _ _ c.requires

pub point_at-requires-2 : goal.point_at-requires-2
point_at-requires-2 c = let I = c.points.ensures.triangulation in b_in _ I.placed _ I.triangulation _ _ _ _ c.requires

pub point_at-requires-3 : goal.point_at-requires-3
point_at-requires-3 c = let I = c.points.ensures.triangulation in c_in _ I.placed _ I.triangulation _ _ _ _ c.requires

pub point_at-requires-4 : goal.point_at-requires-4
point_at-requires-4 c = let I = c.points.ensures.triangulation in d_in _ I.placed _ I.triangulation _ _ _ _ c.requires
