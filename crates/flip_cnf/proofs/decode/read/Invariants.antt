use Rattle.std.proofs.Common.{◌≡◌, map}
use Rattle.std.specs.List.{range_with_len}
use Rattle.log_law.specs.Clauses.{listed}
use Rattle.formula_law.specs.Formula.{round_of}
use Rattle.flip_cnf.proofs.decode.read.Given as goal

abbrev pub invariant-loop-t : goal.invariant-loop-t
invariant-loop-t l = (l.rounds ≡ map (round_of l.lists (listed l.truth) l.k) (range_with_len 0 l.t))
