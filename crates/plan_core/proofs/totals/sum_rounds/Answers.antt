use Rattle.std.proofs.Common.{◌∙◌, ◌+◌, ◌*◌, ◌≤◌, length, get_or, map, sym, ap, ap₂, arith}
use Rattle.std.proofs.lemmas.List.{length-map, take_all}
use Rattle.tri_theory.specs.Rounds.{weighted_sum}
use Rattle.tri_theory.proofs.Totals.{weighted_none, weighted_more}
use Rattle.flip_list_law.specs.FlipLists.{round_count}
use Rattle.round_pack.specs.Tracks.{FlipTrack}
use Rattle.plan_core.specs.HeldPlans.{lists_of}
use Rattle.plan_core.proofs.Sums.{flips_there}
use Rattle.plan_core.proofs.totals.sum_rounds.Goals as goal

pub loop-t-init : goal.loop-t-init
loop-t-init c = record { exact = sym (weighted_none c.args.inst.now.weights); small = omega arith }

pub overflow_add-sum : goal.overflow_add-sum
overflow_add-sum c = omega (arith, c.loop-t.invariant.small, c.weighed-sum.ensures.small, c.loop-t-test.true, c.inputs-t-end.type_inv)

pub loop-t-preserved : goal.loop-t-preserved
loop-t-preserved c = record {
  exact =
      ap₂ ◌+◌ c.loop-t.invariant.exact (c.weighed-sum.ensures.weighed ∙ ap (λ n. get_or c.args.inst.now.weights c.loop-t.t 0 * n) c.rounds.ensures)
      ∙ sym (weighted_more round_count c.args.inst.now.weights (lists_of c.args.tracks.now) c.loop-t.t c.at.result.now.flips (flips_there c.args.tracks.now c.loop-t.t c.at.result.now c.at.ensures));
  small = omega (arith, c.loop-t.invariant.small, c.weighed-sum.ensures.small);
}

pub returns : goal.returns
returns c =
    let l : length (lists_of c.args.tracks.now) ≤ c.loop-t.t = omega (arith, length-map c.args.tracks.now (λ (t : FlipTrack). t.flips), c.requires, c.inputs-t-end.ensures, c.loop-t-test.false) in
    c.loop-t.invariant.exact ∙ ap (λ ls. weighted_sum c.args.inst.now.weights (map round_count ls)) (take_all c.loop-t.t (lists_of c.args.tracks.now) l)
