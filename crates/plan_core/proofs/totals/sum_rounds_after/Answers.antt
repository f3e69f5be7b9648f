use Rattle.std.proofs.Common.{◌∙◌, ◌+◌, ◌*◌, ◌<◌, ◌≤◌, length, get_or, map, sym, ap, ap₂, subst, arith}
use Rattle.std.proofs.lemmas.List.{length-map, take_all}
use Rattle.std.proofs.lemmas.Simd.{map-map}
use Rattle.replay.proofs.Lists.{read_at}
use Rattle.tri_theory.specs.Flips.{FlipsTo, Flips}
use Rattle.tri_theory.specs.Rounds.{weighted_sum}
use Rattle.tri_theory.proofs.Totals.{weighted_none, weighted_more}
use Rattle.flip_list_law.specs.FlipLists.{round_count, follow}
use Rattle.round_pack.specs.Tracks.{FlipTrack, flip}
use Rattle.plan_core.specs.HeldPlans.{lists_of}
use Rattle.plan_core.proofs.Sums.{flips_there}
use Rattle.plan_core.proofs.totals.sum_rounds_after.Goals as goal

pub loop-t-init : goal.loop-t-init
loop-t-init c = record { exact = λ f all. sym (weighted_none c.args.inst.now.weights); small = omega arith }

pub overflow_add-sum : goal.overflow_add-sum
overflow_add-sum c = omega (arith, c.loop-t.invariant.small, c.weighed-sum.ensures.small, c.loop-t-test.true, c.inputs-t-end.type_inv)

pub rounds_after-requires : goal.rounds_after-requires
rounds_after-requires c =
    let l : c.loop-t.t < length c.args.tracks.now = omega (arith, c.requires.number, c.inputs-t-end.ensures, c.loop-t-test.true) in
    subst (λ (t : FlipTrack). Flips t.points t.end c.args.e) (sym (read_at c.args.tracks.now c.loop-t.t c.at.result.now c.at.ensures)) (c.requires.flips c.loop-t.t c.at.result.now l)

pub loop-t-preserved : goal.loop-t-preserved
loop-t-preserved c =
    let l : c.loop-t.t < length c.args.tracks.now = omega (arith, c.requires.number, c.inputs-t-end.ensures, c.loop-t-test.true) in
    record {
      exact = λ f all.
          let here = subst (λ (t : FlipTrack). FlipsTo t.points t.end c.args.e f) (sym (read_at c.args.tracks.now c.loop-t.t c.at.result.now c.at.ensures)) (all c.loop-t.t c.at.result.now l) in
          ap₂ ◌+◌ (c.loop-t.invariant.exact f all) (c.weighed-sum.ensures.weighed ∙ ap (λ n. get_or c.args.inst.now.weights c.loop-t.t 0 * n) (c.rounds_after.ensures f here))
          ∙ sym (weighted_more (λ flips. round_count (follow flips (flip c.args.e f))) c.args.inst.now.weights (lists_of c.args.tracks.now) c.loop-t.t c.at.result.now.flips (flips_there c.args.tracks.now c.loop-t.t c.at.result.now c.at.ensures));
      small = omega (arith, c.loop-t.invariant.small, c.weighed-sum.ensures.small);
    }

pub returns : goal.returns
returns c = λ f all.
    let l : length (lists_of c.args.tracks.now) ≤ c.loop-t.t = omega (arith, length-map c.args.tracks.now (λ (t : FlipTrack). t.flips), c.requires.number, c.inputs-t-end.ensures, c.loop-t-test.false) in
    c.loop-t.invariant.exact f all
    ∙ (ap (λ ls. weighted_sum c.args.inst.now.weights (map (λ flips. round_count (follow flips (flip c.args.e f))) ls)) (take_all c.loop-t.t (lists_of c.args.tracks.now) l)
    ∙ ap (weighted_sum c.args.inst.now.weights) (sym (map-map round_count (λ flips. follow flips (flip c.args.e f)) (lists_of c.args.tracks.now))))
