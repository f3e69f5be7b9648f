use Rattle.std.proofs.Common.{◌∙◌, ◌+◌, ◌*◌, ◌<◌, ◌≤◌, length, get_or, map, nat_lt, sym, ap, ap₂, subst, arith, le-ltb}
use Rattle.std.proofs.lemmas.List.{take_all}
use Rattle.std.proofs.lemmas.Slice.Zip.{AllZip-long}
use Rattle.replay.proofs.Lists.{read_at}
use Rattle.tri_theory.specs.Rounds.{weighted_sum}
use Rattle.tri_theory.proofs.Totals.{weighted_none, weighted_more}
use Rattle.plan_core.specs.Trials.{rounds_then, CanFollow}
use Rattle.plan_core.proofs.Trials.{numbers_more, rest_below}
use Rattle.plan_core.proofs.trial.are_below.Goals as goal

pub sum_of-least_sum-requires : goal.sum_of-least_sum-requires
sum_of-least_sum-requires c = AllZip-long (λ track n. n ≤ rounds_then c.args.edges.now track) c.args.tracks.now c.args.least.now c.requires.least ∙ c.requires.number

pub loop-t-init : goal.loop-t-init
loop-t-init c = record { exact = sym (weighted_none c.args.inst.now.weights); least = sym (weighted_none c.args.inst.now.weights); small = omega arith }

pub overflow_sub-least_sum : goal.overflow_sub-least_sum
overflow_sub-least_sum c =
    let h = rest_below (rounds_then c.args.edges.now) c.args.inst.now.weights c.args.tracks.now c.args.least.now c.loop-t.t c.requires.least in
    let low = h.0 in
    omega (arith, low, c.loop-t.invariant.least, c.sum_of-least_sum.ensures.sum)

pub overflow_add-sum : goal.overflow_add-sum
overflow_add-sum c = omega (arith, c.loop-t.invariant.small, c.sum_of-least_sum.ensures.small, c.loop-t-test.true, c.inputs-t-end.type_inv, c.inputs-t-end.ensures)

pub returns-then-total-sum : goal.returns-then-total-sum
returns-then-total-sum c =
    let h = rest_below (rounds_then c.args.edges.now) c.args.inst.now.weights c.args.tracks.now c.args.least.now c.loop-t.t c.requires.least in
    let low = h.0 in
    let high = h.1 in
    sym (le-ltb (weighted_sum c.args.inst.now.weights (map (rounds_then c.args.edges.now) c.args.tracks.now)) c.args.total
    (omega (arith, low, high, c.loop-t.invariant.exact, c.loop-t.invariant.least, c.sum_of-least_sum.ensures.sum, c.if-total-sum.true)))

pub at-bound-requires : goal.at-bound-requires
at-bound-requires c =
    let long = AllZip-long (λ track n. n ≤ rounds_then c.args.edges.now track) c.args.tracks.now c.args.least.now c.requires.least in
    omega (arith, long, c.requires.number, c.inputs-t-end.ensures, c.loop-t-test.true)

pub rounds_on_copy-requires : goal.rounds_on_copy-requires
rounds_on_copy-requires c =
    let l : c.loop-t.t < length c.args.tracks.now = omega (arith, c.requires.number, c.inputs-t-end.ensures, c.loop-t-test.true) in
    subst (CanFollow c.args.edges.now) (sym (read_at c.args.tracks.now c.loop-t.t c.at-track.result.now c.at-track.ensures)) (c.requires.follows c.loop-t.t c.at-track.result.now l)

pub overflow_add-passed : goal.overflow_add-passed
overflow_add-passed c =
    let h = rest_below (rounds_then c.args.edges.now) c.args.inst.now.weights c.args.tracks.now c.args.least.now c.loop-t.t c.requires.least in
    let low = h.0 in
    omega (arith, low, c.loop-t.invariant.least, c.sum_of-least_sum.ensures.sum, c.sum_of-least_sum.ensures.small, c.weighed-passed.ensures.small, c.inputs-t-end.type_inv, c.inputs-t-end.ensures)

pub loop-t-preserved : goal.loop-t-preserved
loop-t-preserved c = record {
  exact =
      ap₂ ◌+◌ c.loop-t.invariant.exact (c.weighed-sum.ensures.weighed ∙ ap (λ n. get_or c.args.inst.now.weights c.loop-t.t 0 * n) c.in_ok-rounds.ensures)
      ∙ sym (weighted_more (rounds_then c.args.edges.now) c.args.inst.now.weights c.args.tracks.now c.loop-t.t c.at-track.result.now c.at-track.ensures);
  least = ap₂ ◌+◌ c.loop-t.invariant.least c.weighed-passed.ensures.weighed ∙ sym (numbers_more c.args.inst.now.weights c.args.least.now c.loop-t.t c.at-bound.result.now c.at-bound.ensures);
  small = omega (arith, c.loop-t.invariant.small, c.weighed-sum.ensures.small);
}

pub returns : goal.returns
returns c =
    let l : length c.args.tracks.now ≤ c.loop-t.t = omega (arith, c.requires.number, c.inputs-t-end.ensures, c.loop-t-test.false) in
    ap (λ n. nat_lt n c.args.total) (c.loop-t.invariant.exact ∙ ap (λ ts. weighted_sum c.args.inst.now.weights (map (rounds_then c.args.edges.now) ts)) (take_all c.loop-t.t c.args.tracks.now l))
