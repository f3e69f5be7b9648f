use Rattle.std.proofs.Common.{◌≡◌, ◌+◌, ◌≤◌, length, drop}
use Rattle.log_law.specs.Trails.{literals}
use Rattle.sat_search.specs.Choices.{IsReady}
use Rattle.sat_search.specs.Lessons.{lines_from, IsUnderWay}
use Rattle.sat_search.proofs.search.solve.Given as goal

abbrev pub invariant-loop-place : goal.invariant-loop-place
invariant-loop-place l = record {
  way : IsUnderWay l.cnf l.budget l.state (lines_from (length l.cnf.clauses + 1) (drop (length l.cnf.clauses) l.state.clauses) l.hints.items) l.cost;
  ready : IsReady l.state.variables (literals l.state.trail) l.order;
  lines : length l.hints.items ≡ l.place;
  each : length l.cnf.clauses + length l.hints.items ≡ length l.state.clauses;
  paid : l.place ≤ l.cost;
}
