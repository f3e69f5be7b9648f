use Rattle.std.proofs.Common.{◌≡◌, pos, subst, subst₂, arith}
use Rattle.tri_theory.specs.Points.{turn}
use Rattle.cross_bound.proofs.Starts.{end_in_range, off_other}
use Rattle.cross_bound.proofs.start.first_way.Goals as goal

pub is_off-requires-clause-second : goal.is_off-requires-clause-second
is_off-requires-clause-second c = let t = c.points.ensures.triangulation in end_in_range _ t.placed _ t.triangulation _ c.near-near.result c.near-near.ensures

pub first_from-requires-else-is_off-clause-off : goal.first_from-requires-else-is_off-clause-off
first_from-requires-else-is_off-clause-off c =
    let flat : turn c.args.mesh.now.points c.args.e.0 c.near-near.result c.args.e.1 ≡ pos 0 = subst₂ (λ a b. turn c.args.mesh.now.points a c.near-near.result b ≡ pos 0) c.low-2.ensures.low c.high.ensures.high c.if-is_off.ensures in
    let l = c.requires.segment.low_first in
    let r = c.requires.segment.in_range in
    off_other c.args.mesh.now.points c.points.ensures.triangulation.placed c.args.e.0 c.args.e.1 c.near-near.result c.off_line.result (omega (arith, l, r)) r (λ i. let j : c.args.e.0 ≡ c.args.e.1 = i in omega (arith, l, j)) flat
    (subst (λ a. turn c.args.mesh.now.points a c.near-near.result c.off_line.result ≡ pos 0 → ⊥) c.low-else-is_off.ensures.low c.off_line.ensures.off)
