use Rattle.std.proofs.Common.{◌≢◌, ◌∙◌, true≢false, sym, subst₂}
use Rattle.tri_theory.specs.Points.{IsLeft}
use Rattle.tri_theory.proofs.Lists.{tri_to}
use Rattle.cross_bound.proofs.Starts.{end_in_range}
use Rattle.cross_bound.proofs.WalkCounts.{on_left, on_right}
use Rattle.cross_bound.proofs.Ways.{over_of, next_of}
use Rattle.cross_bound.proofs.walk.next_way.Goals as goal

pub is_left-requires-clause-third : goal.is_left-requires-clause-third
is_left-requires-clause-third c = let t = c.points.ensures.triangulation in end_in_range _ t.placed _ t.triangulation c.args.way.right c.in-Some.z c.in-Some.ensures.corner.bc

pub returns-then-is_left-clause-some : goal.returns-then-is_left-clause-some
returns-then-is_left-clause-some c =
    let t = c.points.ensures.triangulation in
    let ne : c.args.e.1 ≢ c.in-Some.z = λ i. c.if-z-high.false (sym i ∙ sym c.high.ensures.high) in
    let h : IsLeft c.args.mesh.now.points c.args.e.0 c.args.e.1 c.in-Some.z = subst₂ (λ a b. IsLeft c.args.mesh.now.points a b c.in-Some.z) c.low.ensures.low c.high-in-Some.ensures.high (c.is_left.ensures.0 c.if-is_left.true) in
    let m = on_left c.args.mesh.now.points t.placed c.args.mesh.now.edges t.triangulation c.args.e c.requires.segment c.args.way.left c.args.way.right c.in-Some.z (over_of _ t.placed _ t.triangulation c.args.e c.requires.segment c.args.way c.requires.crossed) (tri_to _ t.placed _ _ _ _ c.in-Some.ensures.corner) ne h in
    next_of _ t.placed _ t.triangulation c.args.e c.requires.segment c.args.way (record { left = c.in-Some.z; right = c.args.way.right }) m.0 m.1

pub returns-else-is_left-clause-some : goal.returns-else-is_left-clause-some
returns-else-is_left-clause-some c =
    let t = c.points.ensures.triangulation in
    let ne : c.args.e.1 ≢ c.in-Some.z = λ i. c.if-z-high.false (sym i ∙ sym c.high.ensures.high) in
    let m = on_right c.args.mesh.now.points t.placed c.args.mesh.now.edges t.triangulation c.args.e c.requires.segment c.args.way.left c.args.way.right c.in-Some.z (over_of _ t.placed _ t.triangulation c.args.e c.requires.segment c.args.way c.requires.crossed) (tri_to _ t.placed _ _ _ _ c.in-Some.ensures.corner) ne
    (λ h. true≢false (sym (c.is_left.ensures.1 (subst₂ (λ a b. IsLeft c.args.mesh.now.points a b c.in-Some.z) (sym c.low.ensures.low) (sym c.high-in-Some.ensures.high) h)) ∙ c.if-is_left.false)) in
    next_of _ t.placed _ t.triangulation c.args.e c.requires.segment c.args.way (record { left = c.args.way.left; right = c.in-Some.z }) m.0 m.1
