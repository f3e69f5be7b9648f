use Rattle.std.proofs.Common.{◌∙◌, ◌+◌, ◌*◌, length, get_or, ap, ap₂, sym, arith}
use Rattle.std.proofs.lemmas.List.{take_all}
use Rattle.tri_theory.specs.Rounds.{total}
use Rattle.tri_theory.proofs.Totals.{weighted_none, weighted_more}
use Rattle.replay.proofs.scoring.total.Goals as goal

pub loop-t-preserved : goal.loop-t-preserved
loop-t-preserved c = record {
  exact =
      ap₂ ◌+◌ c.loop-t.invariant.exact (c.weighed-sum.ensures.weighed ∙ ap (λ n. get_or c.args.inst.now.weights c.loop-t.t 0 * n) c.cost.ensures)
      ∙ sym (weighted_more (λ rounds. length rounds) c.args.inst.now.weights c.args.lists.now c.loop-t.t c.at.result.now c.at.ensures);
  small = omega (arith, c.loop-t.invariant.small, c.weighed-sum.ensures.small);
}

pub overflow_add-sum : goal.overflow_add-sum
overflow_add-sum c = omega (arith, c.loop-t.invariant.small, c.weighed-sum.ensures.small, c.loop-t-test.true, c.inputs-t-end.type_inv)

pub returns : goal.returns
returns c = c.loop-t.invariant.exact ∙ ap (total c.args.inst.now.weights) (take_all c.loop-t.t c.args.lists.now (omega (arith, c.requires, c.inputs-t-end.ensures, c.loop-t-test.false)))

pub loop-t-init : goal.loop-t-init
loop-t-init c = record { exact = sym (weighted_none c.args.inst.now.weights); small = omega arith }
