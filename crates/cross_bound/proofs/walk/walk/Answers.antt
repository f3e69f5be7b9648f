use Rattle.std.proofs.Common.{arith}
use Rattle.cross_bound.proofs.Ways.{counted_first, counted_crossed, counted_below, counted_next, counted_end, count_fits}
use Rattle.cross_bound.proofs.walk.walk.Goals as goal

pub loop-next-init : goal.loop-next-init
loop-next-init c = let t = c.points.ensures.triangulation in counted_first c.args.mesh.now.points t.placed c.args.mesh.now.edges t.triangulation c.args.e c.requires.segment c.args.first c.requires.first

pub next_way-requires-clause-crossed : goal.next_way-requires-clause-crossed
next_way-requires-clause-crossed c =
    let t = c.points.ensures.triangulation in counted_crossed c.args.mesh.now.points t.placed c.args.mesh.now.edges t.triangulation c.args.e c.requires.segment c.loop-next.way c.loop-next.count c.loop-next.invariant

pub overflow_add-count : goal.overflow_add-count
overflow_add-count c =
    let t = c.points.ensures.triangulation in
    let h = count_fits c.args.mesh.now.points t.placed c.args.mesh.now.edges t.triangulation c.args.e c.requires.segment c.loop-next.way c.in-Some.next c.loop-next.count t.few c.loop-next.invariant c.in-Some.ensures.some in
    omega (arith, h)

pub loop-next-smaller : goal.loop-next-smaller
loop-next-smaller c =
    let t = c.points.ensures.triangulation in
    let h = counted_below c.args.mesh.now.points t.placed c.args.mesh.now.edges t.triangulation c.args.e c.requires.segment c.loop-next.way c.in-Some.next c.loop-next.count c.loop-next.invariant c.in-Some.ensures.some in
    omega (arith, h)

pub loop-next-preserved : goal.loop-next-preserved
loop-next-preserved c = counted_next c.args.mesh.now.points c.args.mesh.now.edges c.args.e c.loop-next.way c.in-Some.next c.loop-next.count c.loop-next.invariant c.in-Some.ensures.some

pub returns : goal.returns
returns c =
    let t = c.points.ensures.triangulation in counted_end c.args.mesh.now.points t.placed c.args.mesh.now.edges t.triangulation c.args.e c.requires.segment c.loop-next.way c.loop-next.count c.loop-next.invariant (c.in_default.ensures.none)
