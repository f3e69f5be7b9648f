use Rattle.std.proofs.Common.{◌≡◌, ◌≤◌, length}
use Rattle.std.specs.Prelude.{filter, nat_le}
use Rattle.sat_state.specs.Tables.{IsLevelled}
use Rattle.sat_state.proofs.state.drop_above.Given as goal

abbrev pub invariant-loop-held : goal.invariant-loop-held
invariant-loop-held l = record {
  same : l.table ≡ record l.fn.table { steps = l.table.steps };
  levelled : IsLevelled l.table.steps l.held;
  lower : l.level ≤ l.held;
  kept : filter (λ step. nat_le step.level l.level) l.table.steps ≡ filter (λ step. nat_le step.level l.level) l.fn.table.steps;
}

abbrev pub decreases-loop-held : goal.decreases-loop-held
decreases-loop-held l = length l.table.steps
