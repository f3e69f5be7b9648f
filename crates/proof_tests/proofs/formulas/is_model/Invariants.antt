use Rattle.std.proofs.Common.{ℕ, ◌<◌, get_or}
use Rattle.log_law.specs.Clauses.{Clause, IsSatisfied, listed}
use Rattle.proof_tests.proofs.formulas.is_model.Given as goal

abbrev pub invariant-loop-n : goal.invariant-loop-n
invariant-loop-n l = (k : ℕ) (d : Clause) → k < l.n → IsSatisfied (listed l.truth) (get_or l.cnf.clauses k d)
