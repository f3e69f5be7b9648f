use Rattle.std.proofs.Common.{◌<◌, ◌≤◌, ℕ, length}
use Rattle.log_law.specs.Trails.{step_at}
use Rattle.sat_search.specs.Choices.{IsWaiting, KeepsWaiting}
use Rattle.sat_search.proofs.order.Order.release.Given as goal

abbrev pub invariant-loop-end : goal.invariant-loop-end
invariant-loop-end l = record {
  within : l.end ≤ length l.state.trail;
  kept : KeepsWaiting l.initial.self l.self;
  freed : (place : ℕ) → l.end ≤ place → place < length l.state.trail → IsWaiting l.self (step_at l.state.trail place).literal.var;
}

abbrev pub decreases-loop-end : goal.decreases-loop-end
decreases-loop-end l = l.end
