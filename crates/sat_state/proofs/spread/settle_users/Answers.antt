use Rattle.std.proofs.Common.{◌≡◌, ◌+◌, ◌<◌, length, get_or, refl, sym, ap, subst, arith}
use Rattle.log_law.specs.Clauses.{negated, IsVariable}
use Rattle.sat_state.specs.Tables.{Table, slot, uses_at}
use Rattle.sat_state.proofs.Settling.{goes_far, users_more, users_done, conflict_at, same_far}
use Rattle.sat_state.proofs.spread.settle_users.Goals as goal

pub user-c-requires-clause-in_range : goal.user-c-requires-clause-in_range
user-c-requires-clause-in_range c = subst (λ (t : Table). IsVariable t.variables c.args.made.var) (sym c.loop-k.invariant.same) c.requires.in_range

pub user-c-requires-clause-place : goal.user-c-requires-clause-place
user-c-requires-clause-place c =
    subst (λ (t : Table). c.loop-k.k < length (uses_at t.uses (slot (negated c.args.made)))) (sym c.loop-k.invariant.same) (subst (λ n. c.loop-k.k < n) c.users-k-end.ensures.users c.loop-k-test.true)

pub loop-k-preserved : goal.loop-k-preserved
loop-k-preserved c = record {
  same = same_far c.args.table.now c.loop-k.table c.settle.new.table c.loop-k.invariant.same c.settle.ensures.same;
  goes_on = goes_far c.args.level c.args.table.now.steps c.loop-k.table.steps c.settle.new.table.steps c.loop-k.invariant.goes_on c.settle.ensures.goes_on;
  search = c.settle.ensures.search;
  still = users_more c.args.table.now c.loop-k.table c.settle.new.table c.args.level c.loop-k.k c.user-c.result (uses_at c.args.table.now.uses (slot (negated c.args.made)))
      c.loop-k.invariant.same c.settle.ensures.same c.requires.search.clauses_fit (subst (λ n. c.loop-k.k < n) c.users-k-end.ensures.users c.loop-k-test.true)
      (subst (λ (t : Table). c.user-c.result ≡ get_or (uses_at t.uses (slot (negated c.args.made))) c.loop-k.k 0) c.loop-k.invariant.same c.user-c.ensures.number)
      c.loop-k.invariant.goes_on c.settle.ensures.goes_on c.loop-k.invariant.still (c.settle.ensures.still c.if-settle.false);
}

pub returns-then-settle-clause-goes_on : goal.returns-then-settle-clause-goes_on
returns-then-settle-clause-goes_on c = goes_far c.args.level c.args.table.now.steps c.loop-k.table.steps c.settle.new.table.steps c.loop-k.invariant.goes_on c.settle.ensures.goes_on

pub returns-then-settle-clause-conflict : goal.returns-then-settle-clause-conflict
returns-then-settle-clause-conflict c =
    let n = ap (λ (t : Table). length t.clauses) c.settle.ensures.same in
    conflict_at c.settle.new.table.clauses c.settle.new.table.steps c.user-c.result (c.user-c.result + 1) refl (omega (arith, n, c.user-c.ensures.within)) (c.settle.ensures.falsified c.if-settle.true)

pub returns-clause-still : goal.returns-clause-still
returns-clause-still c = λ none.
    users_done c.args.table.now c.loop-k.table c.loop-k.k (negated c.args.made) c.loop-k.invariant.same c.users-k-end.ensures.indexed (omega (arith, c.users-k-end.ensures.users, c.loop-k-test.false)) c.loop-k.invariant.still
