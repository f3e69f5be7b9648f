use Rattle.std.proofs.Common.{ℕ, sym, ◌∙◌, subst, arith}
use Rattle.log_law.specs.Clauses.{IsVariable}
use Rattle.sat_search.proofs.Waiting.{popped_fits, queue_fewer, unassigned_is, assigned_is, ready_chosen, ready_passed}
use Rattle.sat_search.proofs.order.Order.next.Goals as goal

pub index_mut-requires : goal.index_mut-requires
index_mut-requires c =
    let fits = popped_fits c.loop-rank.invariant.queue c.in-Some.ensures.permutation in
    omega (arith, c.loop-rank.invariant.queue.waits_wide, c.loop-rank.self-inside.waits.ok.0)

pub value-requires : goal.value-requires
value-requires c = subst (λ (n : ℕ). IsVariable n c.in-Some.rank.var.0) c.loop-rank.invariant.ready.same (popped_fits c.loop-rank.invariant.queue c.in-Some.ensures.permutation)

pub index-requires : goal.index-requires
index-requires c =
    let fits = popped_fits c.loop-rank.invariant.queue c.in-Some.ensures.permutation in
    omega (arith, c.loop-rank.invariant.queue.phases_wide, c.loop-rank.self-inside.phases.ok.0)

pub invariant_of-self : goal.invariant_of-self
invariant_of-self c = queue_fewer c.loop-rank.invariant.queue c.in-Some.ensures.permutation

pub returns-then-is_none-clause-choice : goal.returns-then-is_none-clause-choice
returns-then-is_none-clause-choice c = (
  subst (λ (n : ℕ). IsVariable n c.in-Some.rank.var.0) c.loop-rank.invariant.ready.same (popped_fits c.loop-rank.invariant.queue c.in-Some.ensures.permutation),
  sym c.value.ensures ∙ unassigned_is c.value.result c.if-is_none.ensures,
)

pub returns-then-is_none-clause-ready : goal.returns-then-is_none-clause-ready
returns-then-is_none-clause-ready c = ready_chosen c.loop-rank.invariant.ready _

pub loop-rank-preserved : goal.loop-rank-preserved
loop-rank-preserved c = record {
  queue = queue_fewer c.loop-rank.invariant.queue c.in-Some.ensures.permutation;
  ready = ready_passed c.loop-rank.invariant.ready c.in-Some.rank.var.0 (λ e. assigned_is c.value.result c.if-is_none.ensures (c.value.ensures ∙ e));
}
