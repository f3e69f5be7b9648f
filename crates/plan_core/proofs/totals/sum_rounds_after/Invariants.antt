use Rattle.std.proofs.Common.{◌≡◌, ◌≤◌, ◌*◌, All, map, take}
use Rattle.edge_table.specs.declared.edge.Edge.{Edge}
use Rattle.tri_theory.specs.Flips.{FlipsTo}
use Rattle.tri_theory.specs.Rounds.{weighted_sum}
use Rattle.flip_list_law.specs.FlipLists.{round_count, follow}
use Rattle.round_pack.specs.Tracks.{flip}
use Rattle.plan_core.specs.HeldPlans.{lists_of}
use Rattle.plan_core.proofs.totals.sum_rounds_after.Given as goal

-- the rounds of the tracks so far
abbrev pub invariant-loop-t : goal.invariant-loop-t
invariant-loop-t l = record {
  exact : (f : Edge) → All (λ track. FlipsTo track.points track.end l.e f) l.tracks → l.sum ≡ weighted_sum l.inst.weights (map (λ flips. round_count (follow flips (flip l.e f))) (take l.t (lists_of l.tracks)));
  small : l.sum ≤ l.t * (16 * 18446744073709551615);
}
