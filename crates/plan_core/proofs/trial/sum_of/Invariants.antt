use Rattle.std.proofs.Common.{◌≡◌, ◌≤◌, ◌*◌, take}
use Rattle.tri_theory.specs.Rounds.{weighted_sum}
use Rattle.plan_core.proofs.trial.sum_of.Given as goal

-- the numbers so far
abbrev pub invariant-loop-t : goal.invariant-loop-t
invariant-loop-t l = record {
  exact : l.sum ≡ weighted_sum l.inst.weights (take l.t l.rounds);
  small : l.sum ≤ l.t * (16 * 18446744073709551615);
}
