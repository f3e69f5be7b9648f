use Rattle.std.proofs.Common.{sym, subst}
use Rattle.lawson_start.specs.Steps.{AreBad, IsRetested, AreSidesRetested}
use Rattle.lawson_start.proofs.Corners.{bad_flips, a_not_b, b_not_c, c_not_d, d_not_a}
use Rattle.lawson_start.proofs.Touched.{still_bad}
use Rattle.lawson_start.proofs.run.flip.Goals as goal

pub retest_sides-requires-clause-ab : goal.retest_sides-requires-clause-ab
retest_sides-requires-clause-ab c = let I = c.points.ensures.triangulation in a_not_b _ I.placed _ I.triangulation _ _ _ _ c.in-Some.ensures.some.corners

pub retest_sides-requires-clause-bc : goal.retest_sides-requires-clause-bc
retest_sides-requires-clause-bc c = let I = c.points.ensures.triangulation in b_not_c _ I.placed _ I.triangulation _ _ _ _ c.in-Some.ensures.some.corners

pub retest_sides-requires-clause-cd : goal.retest_sides-requires-clause-cd
retest_sides-requires-clause-cd c = let I = c.points.ensures.triangulation in c_not_d _ I.placed _ I.triangulation _ _ _ _ c.in-Some.ensures.some.corners

pub retest_sides-requires-clause-da : goal.retest_sides-requires-clause-da
retest_sides-requires-clause-da c = let I = c.points.ensures.triangulation in d_not_a _ I.placed _ I.triangulation _ _ _ _ c.in-Some.ensures.some.corners

pub unreachable-requires : goal.unreachable-requires
unreachable-requires c = c.in-None.ensures.none (bad_flips _ _ _ c.requires.here)

pub returns-clause-set : goal.returns-clause-set
returns-clause-set c =
    let I = c.points.ensures.triangulation in
    let p = c.flip-image.ensures.points in
    let U = c.flip-image.new.self.edges in
    subst (λ ps. AreBad ps U c.retest_sides.new.bad) (sym p)
    (still_bad _ I.placed _ _ c.args.e c.flip-image.result I.triangulation c.flip-image.ensures.edges c.in-Some.q c.in-Some.ensures.some c.args.bad.now c.remove.new.self c.retest.new.bad c.retest_sides.new.bad c.requires.set c.remove.ensures
    (subst (λ ps. IsRetested ps U c.remove.new.self c.retest.new.bad c.flip-image.result) p c.in_ok-retest-in-Some.ensures)
    (subst (λ ps. AreSidesRetested ps U c.retest.new.bad c.retest_sides.new.bad c.in-Some.q) p c.in_ok-retest_sides-in-Some.ensures))
