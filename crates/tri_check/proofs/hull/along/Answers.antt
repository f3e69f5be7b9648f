use Rattle.std.proofs.Common.{length, subst}
use Rattle.tri_check.specs.Hulls.{AddsLinks}
use Rattle.tri_check.proofs.Ways.{links_apart, hull_of}
use Rattle.tri_check.proofs.hull.along.Goals as goal

pub with_links-requires : goal.with_links-requires
with_links-requires c = links_apart c.args.points.now c.args.up.now c.args.first.now c.requires.first

pub with_links-requires-2 : goal.with_links-requires-2
with_links-requires-2 c = links_apart c.args.points.now c.args.down.now c.args.second.now c.requires.second

pub returns : goal.returns
returns c =
    hull_of c.args.points.now c.requires.placed c.requires.usable.in_reach c.args.up.now c.args.down.now c.requires.rising c.requires.falling c.args.first.now c.args.second.now c.requires.up c.requires.down c.requires.first c.requires.second c.in_ok-half.half c.in_ok-edges.edges
    (subst (λ b. AddsLinks b c.in_ok-half.half c.args.first.now (length c.args.first.now)) c.make-none.ensures c.in_ok-half.ensures)
    c.in_ok-edges.ensures
