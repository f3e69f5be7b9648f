use Rattle.std.proofs.Common.{◌≡◌, ℕ, length, take, Contains}
use Rattle.log_law.specs.Clauses.{negated}
use Rattle.log_law.specs.Units.{IsStill}
use Rattle.log_law.specs.Trails.{literals}
use Rattle.sat_state.specs.Searches.{IsSearch, GoesOn}
use Rattle.sat_state.specs.Tables.{slot, uses_at, search_of, clause_no, IsUntouched}
use Rattle.sat_state.proofs.spread.settle_users.Given as goal

abbrev pub invariant-loop-k : goal.invariant-loop-k
invariant-loop-k l = record {
  same : l.table ≡ record l.fn.table { steps = l.table.steps };
  goes_on : GoesOn l.level l.fn.table.steps l.table.steps;
  search : IsSearch (search_of l.table l.level);
  still : (c : ℕ) → Contains (take l.k (uses_at l.fn.table.uses (slot (negated l.made)))) c → IsUntouched (length l.fn.table.steps) l.table.steps (clause_no l.fn.table.clauses c) → IsStill (literals l.table.steps) (clause_no l.fn.table.clauses c);
}
