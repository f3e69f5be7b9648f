use Rattle.std.proofs.Common.{◌≡◌, ◌≢◌, ◌∙◌, pos, MatchBool, true≢false, sym, subst}
use Rattle.tri_theory.specs.Points.{turn}
use Rattle.tri_theory.proofs.Net.{not_flat}
use Rattle.cross_bound.proofs.Starts.{off_by}
use Rattle.cross_bound.proofs.start.is_off.Goals as goal

pub returns-else-is_left : goal.returns-else-is_left
returns-else-is_left c =
    off_by _ c.points.ensures.triangulation.placed c.args.a c.args.b c.args.c c.is_left-else-is_left.result (λ h. true≢false (sym (c.is_left.ensures.1 h) ∙ c.if-is_left.false)) c.is_left-else-is_left.ensures

pub returns-then-is_left : goal.returns-then-is_left
returns-then-is_left c =
    subst (λ t. MatchBool t (turn c.args.mesh.now.points c.args.a c.args.b c.args.c ≢ pos 0) (turn c.args.mesh.now.points c.args.a c.args.b c.args.c ≡ pos 0)) (sym c.if-is_left.true)
    (λ e. not_flat (c.is_left.ensures.0 c.if-is_left.true) e)
