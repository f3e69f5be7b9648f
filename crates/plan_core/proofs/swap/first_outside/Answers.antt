use Rattle.std.proofs.Common.{◌∙◌, inl, inr, ◌<◌, ◌≤◌, Contains, length, true≢false, sym, subst, arith}
use Rattle.std.proofs.lemmas.List.{take_all}
use Rattle.replay.proofs.Lists.{more_cases, read_at}
use Rattle.plan_core.proofs.swap.first_outside.Goals as goal

pub returns-then-not-has-clause-some : goal.returns-then-not-has-clause-some
returns-then-not-has-clause-some c = record {
  place = c.loop-i.i;
  there = c.edge_at-e.ensures;
  holds = λ h. true≢false (sym (c.has.ensures.1 h) ∙ c.if-not-has.true);
  first = λ f h k. k (c.loop-i.invariant f h);
}

pub loop-i-preserved : goal.loop-i-preserved
loop-i-preserved c = λ e h.
    let l : c.loop-i.i < length c.args.end.now.edges = omega (arith, c.len-i-end.ensures.len, c.loop-i-test.true) in
    elim (more_cases c.args.end.now.edges c.loop-i.i c.edge_at-e.result e l (read_at c.args.end.now.edges c.loop-i.i c.edge_at-e.result c.edge_at-e.ensures) h) as (λ _. Contains c.args.centre.now.edges e) [
      | inl k ↦ c.loop-i.invariant e k
      | inr k ↦ subst (Contains c.args.centre.now.edges) k (c.has.ensures.0 c.if-not-has.false)
    ]

pub returns-clause-none : goal.returns-clause-none
returns-clause-none c = λ e h.
    let l : length c.args.end.now.edges ≤ c.loop-i.i = omega (arith, c.len-i-end.ensures.len, c.loop-i-test.false) in
    c.loop-i.invariant e (subst (λ es. Contains es e) (sym (take_all c.loop-i.i c.args.end.now.edges l)) h)
