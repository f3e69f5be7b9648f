use Rattle.std.proofs.Common.{◌∙◌, ◌+◌, Some, sym, ap, subst, arith}
use Rattle.plan_law.specs.Plans.{lowers}
use Rattle.plan_moves.specs.Singles.{HasLeastSingle}
use Rattle.plan_moves.proofs.Lowered.{not_true}
use Rattle.plan_moves.proofs.LastRounds.{found_alone, found_lesser, found_still}
use Rattle.plan_moves.proofs.lowering.least_single.Goals.{then-is_lesser+in_ok-copy, else-is_lesser}
use Rattle.plan_moves.proofs.lowering.least_single.Goals as goal

pub loop-i-init : goal.loop-i-init
loop-i-init c = λ k f l s t. absurd (omega arith)

pub is_lesser-requires : goal.is_lesser-requires
is_lesser-requires c = found_alone (lowers c.args.plan.now.problem.points c.args.plan.now.plan) c.args.moves.now c.loop-i.i c.loop-i.least c.loop-i.invariant

pub loop-i-preserved : goal.loop-i-preserved
loop-i-preserved c =
    elim c.if-is_lesser.branch [
      | then-is_lesser+in_ok-copy w ↦
          subst (HasLeastSingle (lowers c.args.plan.now.problem.points c.args.plan.now.plan) c.args.moves.now (c.loop-i.i + 1)) (sym (w.least-is ∙ (ap Some w.in_ok-copy.ensures ∙ (sym w.at-then-is_lesser.ensures ∙ c.at.ensures))))
          (found_lesser (lowers c.args.plan.now.problem.points c.args.plan.now.plan) c.args.moves.now c.loop-i.i c.loop-i.least c.at.result.now c.loop-i.invariant c.at.ensures (c.is_lesser.ensures.0 w.if-is_lesser.true))
      | else-is_lesser w ↦
          subst (HasLeastSingle (lowers c.args.plan.now.problem.points c.args.plan.now.plan) c.args.moves.now (c.loop-i.i + 1)) (sym w.least-is)
          (found_still (lowers c.args.plan.now.problem.points c.args.plan.now.plan) c.args.moves.now c.loop-i.i c.loop-i.least c.at.result.now c.loop-i.invariant c.at.ensures (λ L. not_true c.is_lesser.result w.if-is_lesser.false (c.is_lesser.ensures.1 L)))
    ]

pub returns : goal.returns
returns c =
    subst (λ n. HasLeastSingle (lowers c.args.plan.now.problem.points c.args.plan.now.plan) c.args.moves.now n c.loop-i.least) (omega (arith, c.len-i-end.ensures, c.loop-i.auto.i-end, c.loop-i-test.false)) c.loop-i.invariant
