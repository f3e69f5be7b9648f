use Rattle.std.proofs.Common.{◌≡◌, ◌≤◌, ◌*◌, take}
use Rattle.tri_theory.specs.Rounds.{total}
use Rattle.replay.proofs.scoring.total.Given as goal

-- the rounds of the lists so far
abbrev pub invariant-loop-t : goal.invariant-loop-t
invariant-loop-t l = record {
  exact : l.sum ≡ total l.inst.weights (take l.t l.lists);
  small : l.sum ≤ l.t * (16 * 18446744073709551615);
}
