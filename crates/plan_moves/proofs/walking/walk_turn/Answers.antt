use Rattle.std.proofs.Common.{◌∙◌, true, false, true≢false, sym, ap, subst₂, arith}
use Rattle.tri_check.specs.Problems.{Problem}
use Rattle.plan_core.specs.HeldPlans.{HeldPlan}
use Rattle.plan_moves.proofs.Walked.{IsWalking, walking_begins, draws, drawn, walks_on, walks_at, is_better, stands_still, is_done}
use Rattle.plan_moves.proofs.walking.walk_turn.Goals as goal

pub loop-init : goal.loop-init
loop-init g c = record {
  problem = ap (λ (h : HeldPlan). h.problem) c.in_ok-walked.ensures;
  walking =
      subst₂ (λ made now. IsWalking c.args.plan.now.problem.points c.args.plan.now.plan (g.R.Rng.stream c.args.words.now) 0 made now (g.R.Rng.stream c.args.words.now)) (sym c.make-made.ensures) (sym (ap (λ (h : HeldPlan). h.plan) c.in_ok-walked.ensures))
      (walking_begins c.args.plan.now.problem.points c.args.plan.now.plan (g.R.Rng.stream c.args.words.now));
}

pub returns-in_err-make_move-clause-words : goal.returns-in_err-make_move-clause-words
returns-in_err-make_move-clause-words g c =
    draws c.args.plan.now.problem.points c.args.plan.now.plan (g.R.Rng.stream c.args.words.now) c.loop.counter c.loop.made c.loop.walked.plan (g.R.Rng.stream c.loop.words) c.loop.invariant.walking c.next_u32.result (g.R.Rng.stream c.next_u32.new.self) c.next_u32.ensures
    (omega arith) (λ e. true≢false (sym (c.in_ok-has_no_move.ensures.1 e) ∙ c.if-branch.false))

pub returns-then-not-branch-clause-ok : goal.returns-then-not-branch-clause-ok
returns-then-not-branch-clause-ok g c =
    let S = walks_at c.loop.walked.problem.points c.args.plan.now.problem.points c.in_ok-make_move.field-0 false c.loop.walked.plan c.make_move.new.plan.plan c.loop.made c.make_move.new.made c.next_u32.result (ap (λ (p : Problem). p.points) c.loop.invariant.problem) c.if-not-branch.true c.in_ok-make_move.ensures.ok in
    stands_still c.args.plan.now.problem.points c.args.plan.now.plan (g.R.Rng.stream c.args.words.now) c.loop.counter c.loop.made c.loop.walked.plan (g.R.Rng.stream c.loop.words) c.loop.invariant.walking (omega arith) S.0

pub returns-then-not-branch-clause-words : goal.returns-then-not-branch-clause-words
returns-then-not-branch-clause-words g c =
    draws c.args.plan.now.problem.points c.args.plan.now.plan (g.R.Rng.stream c.args.words.now) c.loop.counter c.loop.made c.loop.walked.plan (g.R.Rng.stream c.loop.words) c.loop.invariant.walking c.next_u32.result (g.R.Rng.stream c.next_u32.new.self) c.next_u32.ensures
    (omega arith) (λ e. true≢false (sym (c.in_ok-has_no_move.ensures.1 e) ∙ c.if-branch.false))

pub returns-then-total-start-clause-ok : goal.returns-then-total-start-clause-ok
returns-then-total-start-clause-ok g c =
    is_better c.args.plan.now.problem.points c.args.plan.now.plan (g.R.Rng.stream c.args.words.now) c.loop.counter c.loop.made c.loop.walked.plan (g.R.Rng.stream c.loop.words) c.loop.invariant.walking c.next_u32.result (g.R.Rng.stream c.next_u32.new.self) c.next_u32.ensures
    c.make_move.new.plan.plan c.make_move.new.made (walks_at c.loop.walked.problem.points c.args.plan.now.problem.points c.in_ok-make_move.field-0 true c.loop.walked.plan c.make_move.new.plan.plan c.loop.made c.make_move.new.made c.next_u32.result (ap (λ (p : Problem). p.points) c.loop.invariant.problem) c.if-not-branch.false c.in_ok-make_move.ensures.ok) (omega arith) (omega (arith, c.total.ensures.total, c.total-start.ensures.total, c.if-total-start.true))

pub returns-then-total-start-clause-words : goal.returns-then-total-start-clause-words
returns-then-total-start-clause-words g c =
    draws c.args.plan.now.problem.points c.args.plan.now.plan (g.R.Rng.stream c.args.words.now) c.loop.counter c.loop.made c.loop.walked.plan (g.R.Rng.stream c.loop.words) c.loop.invariant.walking c.next_u32.result (g.R.Rng.stream c.next_u32.new.self) c.next_u32.ensures
    (omega arith) (λ e. true≢false (sym (c.in_ok-has_no_move.ensures.1 e) ∙ c.if-branch.false))

pub loop-preserved : goal.loop-preserved
loop-preserved g c = record {
  problem = c.make_move.ensures.problem ∙ c.loop.invariant.problem;
  walking =
      walks_on c.args.plan.now.problem.points c.args.plan.now.plan (g.R.Rng.stream c.args.words.now) c.loop.counter c.loop.made c.loop.walked.plan (g.R.Rng.stream c.loop.words) c.loop.invariant.walking c.next_u32.result (g.R.Rng.stream c.next_u32.new.self) c.next_u32.ensures
      c.make_move.new.plan.plan c.make_move.new.made (walks_at c.loop.walked.problem.points c.args.plan.now.problem.points c.in_ok-make_move.field-0 true c.loop.walked.plan c.make_move.new.plan.plan c.loop.made c.make_move.new.made c.next_u32.result (ap (λ (p : Problem). p.points) c.loop.invariant.problem) c.if-not-branch.false c.in_ok-make_move.ensures.ok) (omega (arith, c.total.ensures.total, c.total-start.ensures.total, c.if-total-start.false));
}

pub returns-clause-ok : goal.returns-clause-ok
returns-clause-ok g c =
    is_done c.args.plan.now.problem.points c.args.plan.now.plan (g.R.Rng.stream c.args.words.now) c.loop.counter c.loop.made c.loop.walked.plan (g.R.Rng.stream c.loop.words) c.loop.invariant.walking (omega arith) (omega arith)

pub returns-clause-words : goal.returns-clause-words
returns-clause-words g c =
    drawn c.args.plan.now.problem.points c.args.plan.now.plan (g.R.Rng.stream c.args.words.now) c.loop.counter c.loop.made c.loop.walked.plan (g.R.Rng.stream c.loop.words) c.loop.invariant.walking (omega arith)
    (λ e. true≢false (sym (c.in_ok-has_no_move.ensures.1 e) ∙ c.if-branch.false))
