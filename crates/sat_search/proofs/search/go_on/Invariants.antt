use Rattle.std.proofs.Common.{◌≡◌, ◌+◌, ◌-◌, length}
use Rattle.log_law.specs.Trails.{literals}
use Rattle.sat_search.specs.Choices.{IsReady}
use Rattle.sat_search.proofs.search.go_on.Given as goal

abbrev pub invariant-loop-falsified : goal.invariant-loop-falsified
invariant-loop-falsified l = record {
  ready : IsReady l.state.variables (literals l.state.trail) l.order;
  same : l.state ≡ record l.initial.state { trail = l.state.trail; level = l.state.level };
}

abbrev pub decreases-loop-falsified : goal.decreases-loop-falsified
decreases-loop-falsified l = l.state.variables + 1 - length l.state.trail
