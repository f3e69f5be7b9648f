use Rattle.std.proofs.Common.{◌≡◌, ◌∙◌, true≢false, sym, subst}
use Rattle.std.specs.Prelude.{nat_lt}
use Rattle.edge_table.specs.Edges.{edge}
use Rattle.tri_theory.specs.Triangulations.{IsSegment}
use Rattle.tri_theory.specs.Crossings.{crossings}
use Rattle.replay.proofs.Quads.{corners_apart}
use Rattle.plan_moves.proofs.GreedyRounds.{quad_segment, image_segment, ends_apart, fits, misfits}
use Rattle.plan_moves.proofs.greedy.takes.Goals as goal

pub is_apart-requires : goal.is_apart-requires
is_apart-requires c = corners_apart _ c.points.ensures.triangulation.placed _ c.points.ensures.triangulation.triangulation c.args.e c.in-Some.q c.in-Some.ensures.some

pub is_lower-requires-clause-apart : goal.is_lower-requires-clause-apart
is_lower-requires-clause-apart c = ends_apart _ c.points.ensures.triangulation.placed _ c.points.ensures.triangulation.triangulation c.args.e c.in-Some.q c.in-Some.ensures.some

pub is_lower-requires-clause-image : goal.is_lower-requires-clause-image
is_lower-requires-clause-image c =
    subst (λ ps. IsSegment ps (edge c.in-Some.q.b c.in-Some.q.d)) c.requires.points
    (image_segment _ c.points.ensures.triangulation.placed _ c.points.ensures.triangulation.triangulation c.args.e c.in-Some.q c.in-Some.ensures.some)

pub is_lower-requires-clause-segment : goal.is_lower-requires-clause-segment
is_lower-requires-clause-segment c =
    subst (λ ps. IsSegment ps c.args.e) c.requires.points (quad_segment _ c.points.ensures.triangulation.placed _ c.points.ensures.triangulation.triangulation c.args.e c.in-Some.q c.in-Some.ensures.some)

pub returns-then-is_apart : goal.returns-then-is_apart
returns-then-is_apart c =
    fits _ c.points.ensures.triangulation.placed _ c.points.ensures.triangulation.triangulation c.args.centre.now.edges c.args.taken.now c.args.e c.in-Some.q c.in-Some.ensures.some (c.is_apart.ensures.0 c.if-is_apart.true) c.is_lower.result
    (subst (λ ps. c.is_lower.result ≡ nat_lt (crossings ps c.args.centre.now.edges (edge c.in-Some.q.b c.in-Some.q.d)) (crossings ps c.args.centre.now.edges c.args.e)) (sym c.requires.points) c.is_lower.ensures)

pub returns-else-is_apart : goal.returns-else-is_apart
returns-else-is_apart c =
    misfits _ c.points.ensures.triangulation.placed _ c.points.ensures.triangulation.triangulation c.args.centre.now.edges c.args.taken.now c.args.e c.in-Some.q c.in-Some.ensures.some
    (λ n. true≢false (sym (c.is_apart.ensures.1 n) ∙ c.if-is_apart.false)) c.is_apart.result c.if-is_apart.false
