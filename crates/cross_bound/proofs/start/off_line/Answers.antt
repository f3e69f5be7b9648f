use Rattle.cross_bound.proofs.Starts.{joined_back, not_on_line, some_triangle}
use Rattle.cross_bound.proofs.start.off_line.Goals as goal

pub unreachable-requires : goal.unreachable-requires
unreachable-requires c =
    let t = c.points.ensures.triangulation in
    some_triangle _ t.placed _ t.triangulation c.args.u c.args.near c.requires c.in-None.ensures.corner c.in-None-apex.ensures.corner

pub returns-in-Some-clause-joined : goal.returns-in-Some-clause-joined
returns-in-Some-clause-joined c = let t = c.points.ensures.triangulation in joined_back _ t.placed _ t.triangulation c.in-Some.c c.args.u c.in-Some.ensures.corner.ca

pub returns-in-Some-apex-clause-off : goal.returns-in-Some-apex-clause-off
returns-in-Some-apex-clause-off c = not_on_line _ c.points.ensures.triangulation.placed c.args.u c.args.near c.in-Some-apex.c c.in-Some-apex.ensures.corner.turns
