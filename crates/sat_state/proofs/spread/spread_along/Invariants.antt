use Rattle.std.proofs.Common.{◌≡◌, ◌≤◌, ◌-◌, length}
use Rattle.sat_state.specs.Searches.{IsSearch, GoesOn}
use Rattle.sat_state.specs.Tables.{search_of, IsSettled}
use Rattle.sat_state.proofs.spread.spread_along.Given as goal

abbrev pub invariant-loop-looked : goal.invariant-loop-looked
invariant-loop-looked l = record {
  same : l.table ≡ record l.fn.table { steps = l.table.steps };
  goes_on : GoesOn l.level l.fn.table.steps l.table.steps;
  search : IsSearch (search_of l.table l.level);
  within : l.looked ≤ length l.table.steps;
  settled : IsSettled (length l.table.clauses) l.looked l.table;
}

abbrev pub decreases-loop-looked : goal.decreases-loop-looked
decreases-loop-looked l = l.fn.table.variables - l.looked
