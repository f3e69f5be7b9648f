use Rattle.std.proofs.Common.{◌≡◌, ◌≤◌, ◌*◌, map, take}
use Rattle.tri_theory.specs.Rounds.{weighted_sum}
use Rattle.plan_core.specs.Trials.{rounds_then}
use Rattle.plan_core.proofs.trial.are_below.Given as goal

-- the tracks so far
abbrev pub invariant-loop-t : goal.invariant-loop-t
invariant-loop-t l = record {
  exact : l.sum ≡ weighted_sum l.inst.weights (map (rounds_then l.edges) (take l.t l.tracks));
  least : l.passed ≡ weighted_sum l.inst.weights (take l.t l.least);
  small : l.sum ≤ l.t * (16 * 18446744073709551615);
}
