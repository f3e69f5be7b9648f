use Rattle.std.proofs.Common.{◌≡◌, ◌≤◌, ◌-◌, ℕ, length}
use Rattle.sat_state.specs.Searches.{IsSearch, GoesOn}
use Rattle.sat_state.specs.Tables.{search_of, IsSettled}
use Rattle.sat_state.proofs.spread.spread_new.Given as goal

abbrev pub invariant-loop-seen : goal.invariant-loop-seen
invariant-loop-seen l = record {
  same : l.table ≡ record l.fn.table { steps = l.table.steps };
  goes_on : GoesOn l.level l.fn.table.steps l.table.steps;
  search : IsSearch (search_of l.table l.level);
  within : l.seen ≤ l.count;
  settled : (looked : ℕ) → looked ≤ length l.fn.table.steps → IsSettled l.fn.seen looked l.fn.table → IsSettled l.seen looked l.table;
}

abbrev pub decreases-loop-seen : goal.decreases-loop-seen
decreases-loop-seen l = l.count - l.seen
