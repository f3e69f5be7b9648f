use Rattle.std.proofs.Common.{arith}
use Rattle.tri_check.specs.Tables.{Fits}
use Rattle.tri_check.proofs.Tables.{fits_more}
use Rattle.tri_check.proofs.Searches.{all_at_end}
use Rattle.tri_check.proofs.table.all_fit.Goals as goal

pub loop-i-preserved : goal.loop-i-preserved
loop-i-preserved c = fits_more c.args.points.now c.args.edges.now c.args.table.now c.loop-i.i (omega (arith, c.len-i-end.ensures.len)) c.loop-i.invariant (c.fits.ensures c.if-not-fits.false)

pub returns : goal.returns
returns c = λ _. all_at_end c.args.edges.now (Fits c.args.points.now c.args.edges.now c.args.table.now) c.loop-i.i (omega (arith, c.len-i-end.ensures.len)) c.loop-i.invariant
