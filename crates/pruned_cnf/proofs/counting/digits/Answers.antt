use Rattle.pruned_cnf.proofs.Crossed.{digits_left}
use Rattle.pruned_cnf.proofs.counting.digits.Goals as goal

pub returns-clause-count : goal.returns-clause-count
returns-clause-count c = digits_left c.args.n c.ranges.n.fits
