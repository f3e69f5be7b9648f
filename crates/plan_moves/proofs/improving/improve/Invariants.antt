use Rattle.std.proofs.Common.{◌≡◌, ◌+◌, ℕ}
use Rattle.plan_law.specs.Improving.{improved}
use Rattle.plan_moves.specs.Improved.{words_of}
use Rattle.plan_moves.proofs.improving.improve.Given as goal

-- what is left of the improvers makes of this plan what all of them make of the first
abbrev pub invariant-loop-p : goal.invariant-loop-p
invariant-loop-p l = record {
  problem : l.plan.problem ≡ l.initial.plan.problem;
  rest : (n : ℕ) → improved (words_of l.seed) l.initial.plan.problem.points l.initial.plan.problem.inputs (l.p + n) 0 l.initial.plan.plan ≡ improved (words_of l.seed) l.initial.plan.problem.points l.initial.plan.problem.inputs n l.p l.plan.plan;
}
