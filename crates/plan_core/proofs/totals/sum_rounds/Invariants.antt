use Rattle.std.proofs.Common.{◌≡◌, ◌≤◌, ◌*◌, map, take}
use Rattle.tri_theory.specs.Rounds.{weighted_sum}
use Rattle.flip_list_law.specs.FlipLists.{round_count}
use Rattle.plan_core.specs.HeldPlans.{lists_of}
use Rattle.plan_core.proofs.totals.sum_rounds.Given as goal

-- the rounds of the tracks so far
abbrev pub invariant-loop-t : goal.invariant-loop-t
invariant-loop-t l = record {
  exact : l.sum ≡ weighted_sum l.inst.weights (map round_count (take l.t (lists_of l.tracks)));
  small : l.sum ≤ l.t * (16 * 18446744073709551615);
}
