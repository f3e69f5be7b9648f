use Rattle.std.proofs.Common.{◌≤◌}
use Rattle.std.specs.Prelude.{All}
use Rattle.log_law.specs.declared.Lit.{Lit}
use Rattle.log_law.specs.Clauses.{IsClause}
use Rattle.sat_search.proofs.tests.clause.Given as goal

abbrev pub invariant-loop-n : goal.invariant-loop-n
invariant-loop-n l = record {
  fits : IsClause l.vars l.made;
  below : All (λ (x : Lit). x.var ≤ l.last) l.made;
}
