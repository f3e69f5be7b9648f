use Rattle.std.proofs.Common.{arith}
use Rattle.sat_state.proofs.Settling.{goes_far, goes_long, same_far, seen_more, settled_goes}
use Rattle.sat_state.proofs.spread.spread_new.Goals as goal

pub loop-seen-preserved : goal.loop-seen-preserved
loop-seen-preserved c =
    let longer = goes_long c.args.level c.args.table.now.steps c.loop-seen.table.steps c.loop-seen.invariant.goes_on in
    record {
      same = same_far c.args.table.now c.loop-seen.table c.settle.new.table c.loop-seen.invariant.same c.settle.ensures.same;
      goes_on = goes_far c.args.level c.args.table.now.steps c.loop-seen.table.steps c.settle.new.table.steps c.loop-seen.invariant.goes_on c.settle.ensures.goes_on;
      search = c.settle.ensures.search;
      within = omega (arith, c.loop-seen-test.true);
      settled = λ looked m s.
          seen_more c.loop-seen.table c.settle.new.table c.args.level c.loop-seen.seen looked c.settle.ensures.same c.loop-seen.invariant.search.clauses_fit (omega (arith, m, longer)) c.settle.ensures.goes_on
          (c.loop-seen.invariant.settled looked m s) (c.settle.ensures.still c.if-settle.false);
    }

pub returns-then-settle-clause-goes_on : goal.returns-then-settle-clause-goes_on
returns-then-settle-clause-goes_on c = goes_far c.args.level c.args.table.now.steps c.loop-seen.table.steps c.settle.new.table.steps c.loop-seen.invariant.goes_on c.settle.ensures.goes_on

pub returns-then-settle-clause-settled : goal.returns-then-settle-clause-settled
returns-then-settle-clause-settled c = λ looked m s.
    let longer = goes_long c.args.level c.args.table.now.steps c.loop-seen.table.steps c.loop-seen.invariant.goes_on in
    settled_goes c.loop-seen.table c.settle.new.table c.args.level c.loop-seen.seen looked c.settle.ensures.same c.loop-seen.invariant.search.clauses_fit (omega (arith, m, longer)) c.settle.ensures.goes_on (c.loop-seen.invariant.settled looked m s)
