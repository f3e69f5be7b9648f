use Rattle.std.proofs.Common.{◌∙◌, true≢false, sym, subst, subst₂}
use Rattle.tri_theory.specs.Points.{IsLeft}
use Rattle.tri_theory.specs.Triangulations.{AreJoined}
use Rattle.cross_bound.proofs.Starts.{joined_back, end_in_range, fewer_right, first_right}
use Rattle.cross_bound.proofs.start.turn_right.Goals as goal

pub third-right-requires-clause-joined : goal.third-right-requires-clause-joined
third-right-requires-clause-joined c =
    let t = c.points.ensures.triangulation in
    subst (λ k. AreJoined c.args.mesh.now.edges c.args.near k) (sym c.low.ensures.low) (joined_back _ t.placed _ t.triangulation c.args.e.0 c.args.near c.requires.joined)

pub is_left-requires-clause-first : goal.is_left-requires-clause-first
is_left-requires-clause-first c = let t = c.points.ensures.triangulation in end_in_range _ t.placed _ t.triangulation c.args.e.0 c.loop-left.right c.loop-left.invariant.corner.bc

pub third-right-requires-in-loop-left-clause-joined : goal.third-right-requires-in-loop-left-clause-joined
third-right-requires-in-loop-left-clause-joined c =
    let t = c.points.ensures.triangulation in
    subst (λ k. AreJoined c.args.mesh.now.edges c.loop-left.right k) (sym c.low-in-loop-left-2.ensures.low) (joined_back _ t.placed _ t.triangulation c.args.e.0 c.loop-left.right c.loop-left.invariant.corner.bc)

pub loop-left-smaller : goal.loop-left-smaller
loop-left-smaller c =
    let t = c.points.ensures.triangulation in
    let h : IsLeft c.args.mesh.now.points c.loop-left.right c.args.e.0 c.args.e.1 = subst₂ (λ a b. IsLeft c.args.mesh.now.points c.loop-left.right a b) c.low-in-loop-left.ensures.low c.high.ensures.high (c.is_left.ensures.0 c.loop-left-test.true) in
    fewer_right c.args.mesh.now.points t.placed c.args.e.0 c.args.e.1 c.loop-left.left c.loop-left.right (end_in_range _ t.placed _ t.triangulation c.args.e.0 c.loop-left.right c.loop-left.invariant.corner.bc) c.loop-left.invariant.beyond h c.loop-left.invariant.corner.turns

pub returns : goal.returns
returns c =
    let t = c.points.ensures.triangulation in
    first_right c.args.mesh.now.points t.placed c.args.mesh.now.edges t.triangulation c.args.e c.requires.outside c.loop-left.left c.loop-left.right c.loop-left.invariant.corner c.loop-left.invariant.beyond
    (λ h. true≢false (sym (c.is_left.ensures.1 (subst₂ (λ a b. IsLeft c.args.mesh.now.points c.loop-left.right a b) (sym c.low-in-loop-left.ensures.low) (sym c.high.ensures.high) h)) ∙ c.loop-left-test.false))
