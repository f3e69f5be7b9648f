use Rattle.tri_check.proofs.Searches.{refuted}
use Rattle.tri_check.proofs.Outline.{hull_skip, hull_add}
use Rattle.tri_check.proofs.hull.add_segment.Goals as goal

pub returns-then-not-is_hull_segment : goal.returns-then-not-is_hull_segment
returns-then-not-is_hull_segment c = hull_skip _ _ _ _ c.requires.hull (refuted _ _ c.is_hull_segment.ensures c.if-not-is_hull_segment.true)

pub returns-in_ok-insert-in-Some : goal.returns-in_ok-insert-in-Some
returns-in_ok-insert-in-Some c =
    hull_add c.args.points.now c.args.edges.now c.insert.new.self c.args.a c.args.b c.in-Some.e c.requires.order c.requires.hull (c.is_hull_segment.ensures.0 c.if-not-is_hull_segment.false) c.in_ok-insert-in-Some.ensures.ok c.in_ok-insert-in-Some.ensures.ascending c.in-Some.ensures.ends
