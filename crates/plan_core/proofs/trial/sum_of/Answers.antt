use Rattle.std.proofs.Common.{◌∙◌, ◌+◌, ◌≤◌, length, sym, ap, ap₂, arith}
use Rattle.std.proofs.lemmas.List.{take_all}
use Rattle.tri_theory.specs.Rounds.{weighted_sum}
use Rattle.tri_theory.proofs.Totals.{weighted_none}
use Rattle.plan_core.proofs.Trials.{numbers_more}
use Rattle.plan_core.proofs.trial.sum_of.Goals as goal

pub loop-t-init : goal.loop-t-init
loop-t-init c = record { exact = sym (weighted_none c.args.inst.now.weights); small = omega arith }

pub overflow_add-sum : goal.overflow_add-sum
overflow_add-sum c = omega (arith, c.loop-t.invariant.small, c.weighed-sum.ensures.small, c.loop-t-test.true, c.inputs-t-end.type_inv)

pub loop-t-preserved : goal.loop-t-preserved
loop-t-preserved c = record {
  exact = ap₂ ◌+◌ c.loop-t.invariant.exact c.weighed-sum.ensures.weighed ∙ sym (numbers_more c.args.inst.now.weights c.args.rounds.now c.loop-t.t c.at.result.now c.at.ensures);
  small = omega (arith, c.loop-t.invariant.small, c.weighed-sum.ensures.small);
}

pub returns : goal.returns
returns c =
    let l : length c.args.rounds.now ≤ c.loop-t.t = omega (arith, c.requires, c.inputs-t-end.ensures, c.loop-t-test.false) in
    record {
      sum = c.loop-t.invariant.exact ∙ ap (weighted_sum c.args.inst.now.weights) (take_all c.loop-t.t c.args.rounds.now l);
      small = omega (arith, c.loop-t.invariant.small, c.loop-t.auto.t-end, c.inputs-t-end.ensures);
    }
