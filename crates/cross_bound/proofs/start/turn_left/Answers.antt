use Rattle.std.proofs.Common.{◌∙◌, true≢false, sym, subst, subst₂}
use Rattle.tri_theory.specs.Points.{IsLeft}
use Rattle.tri_theory.specs.Triangulations.{AreJoined}
use Rattle.cross_bound.proofs.Starts.{joined_back, end_in_range, fewer_left, first_left}
use Rattle.cross_bound.proofs.start.turn_left.Goals as goal

pub is_left-requires-clause-second : goal.is_left-requires-clause-second
is_left-requires-clause-second c = let t = c.points.ensures.triangulation in end_in_range _ t.placed _ t.triangulation c.loop-right.right c.loop-right.left c.loop-right.invariant.corner.bc

pub third-left-requires-in-loop-right-clause-joined : goal.third-left-requires-in-loop-right-clause-joined
third-left-requires-in-loop-right-clause-joined c =
    let t = c.points.ensures.triangulation in
    subst (λ k. AreJoined c.args.mesh.now.edges k c.loop-right.left) (sym c.low-in-loop-right-2.ensures.low) (joined_back _ t.placed _ t.triangulation c.loop-right.left c.args.e.0 c.loop-right.invariant.corner.ca)

pub loop-right-smaller : goal.loop-right-smaller
loop-right-smaller c =
    let t = c.points.ensures.triangulation in
    let h : IsLeft c.args.mesh.now.points c.args.e.0 c.loop-right.left c.args.e.1 = subst₂ (λ a b. IsLeft c.args.mesh.now.points a c.loop-right.left b) c.low-in-loop-right.ensures.low c.high.ensures.high (c.is_left.ensures.0 c.loop-right-test.true) in
    fewer_left c.args.mesh.now.points t.placed c.args.e.0 c.args.e.1 c.loop-right.right c.loop-right.left (end_in_range _ t.placed _ t.triangulation c.loop-right.right c.loop-right.left c.loop-right.invariant.corner.bc) c.loop-right.invariant.beyond h c.loop-right.invariant.corner.turns

pub returns : goal.returns
returns c =
    let t = c.points.ensures.triangulation in
    first_left c.args.mesh.now.points t.placed c.args.mesh.now.edges t.triangulation c.args.e c.requires.outside c.loop-right.right c.loop-right.left c.loop-right.invariant.corner c.loop-right.invariant.beyond
    (λ h. true≢false (sym (c.is_left.ensures.1 (subst₂ (λ a b. IsLeft c.args.mesh.now.points a c.loop-right.left b) (sym c.low-in-loop-right.ensures.low) (sym c.high.ensures.high) h)) ∙ c.loop-right-test.false))
