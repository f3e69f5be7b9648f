use Rattle.std.proofs.Common.{◌≡◌, map}
use Rattle.std.specs.List.{range_with_len}
use Rattle.log_law.specs.Clauses.{listed}
use Rattle.formula_law.specs.PrunedFormula.{live_round_of}
use Rattle.pruned_cnf.specs.Queries.{live_in}
use Rattle.pruned_cnf.specs.Numbered.{flips_before}
use Rattle.pruned_cnf.proofs.decoding.decode.Given as goal

abbrev pub invariant-loop-t : goal.invariant-loop-t
invariant-loop-t l = record {
  rounds : l.rounds ≡ map (live_round_of l.query.frame (live_in l.query) (listed l.truth) l.query.rounds) (range_with_len 0 l.t);
  last : l.last ≡ flips_before l.query l.t;
}
