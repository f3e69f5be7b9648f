use Rattle.std.proofs.Common.{◌∙◌, true≢false, sym, subst₂}
use Rattle.tri_theory.specs.Points.{IsLeft}
use Rattle.cross_bound.proofs.Starts.{end_in_range, on_right_side}
use Rattle.cross_bound.proofs.start.first_from.Goals as goal

pub is_left-requires-clause-second : goal.is_left-requires-clause-second
is_left-requires-clause-second c = let t = c.points.ensures.triangulation in end_in_range _ t.placed _ t.triangulation c.args.e.0 c.args.near c.requires.joined

pub turn_right-requires-clause-beyond : goal.turn_right-requires-clause-beyond
turn_right-requires-clause-beyond c =
    on_right_side c.args.mesh.now.points c.points.ensures.triangulation.placed c.args.e.0 c.args.near c.args.e.1 c.requires.off
    (λ h. true≢false (sym (c.is_left.ensures.1 (subst₂ (λ a b. IsLeft c.args.mesh.now.points a c.args.near b) (sym c.low.ensures.low) (sym c.high.ensures.high) h)) ∙ c.if-is_left.false))
