use Rattle.tri_check.proofs.Tables.{triangulated}
use Rattle.tri_check.proofs.table.is_triangulation.Goals as goal

pub returns : goal.returns
returns c = λ h. triangulated c.args.points.now c.args.edges.now c.deref-2.result.now c.requires.placed c.requires.edges c.len.ensures.ascending (c.all_are_ends.ensures c.if-not-all_are_ends.false) (c.all_fit.ensures h)
