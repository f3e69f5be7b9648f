use Rattle.std.proofs.Common.{◌≡◌, ◌+◌, ◌&&◌, length, take, map}
use Rattle.std.specs.List.{filter}
use Rattle.log_law.specs.Clauses.{listed}
use Rattle.pruned_cnf.specs.Queries.{is_live_flip_in, flip_in}
use Rattle.pruned_cnf.specs.Numbered.{flips_before}
use Rattle.pruned_cnf.proofs.decoding.read_round.Given as goal

abbrev pub invariant-loop-n : goal.invariant-loop-n
invariant-loop-n l = record {
  edges : l.edges ≡ map (λ g. g.0) (filter (λ g. is_live_flip_in l.query l.t g && listed l.truth (flip_in l.query l.t g)) (take l.n l.query.frame.flips));
  last : l.last ≡ flips_before l.query l.t + length (filter (is_live_flip_in l.query l.t) (take l.n l.query.frame.flips));
}
