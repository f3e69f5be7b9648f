use Rattle.std.proofs.Common.{◌<◌, ◌≤◌, ◌*◌, ◌+◌, sym, ap, ◌∙◌, arith}
use Rattle.match_bound.specs.Tables.{weight}
use Rattle.match_bound.proofs.Sums.{sum_before, sum_more, sum_all}
use Rattle.match_bound.proofs.best.sum_of.Goals as goal

pub loop-i-preserved : goal.loop-i-preserved
loop-i-preserved c = record {
  sum = ap (λ s. s + c.weight.result) c.loop-i.invariant.sum ∙ (ap (λ w. sum_before (weight c.args.w.now) c.args.perm.now c.loop-i.i + w) c.weight.ensures ∙ sym (sum_more (weight c.args.w.now) c.args.perm.now c.loop-i.i c.at.result.now c.at.ensures));
  small = let s : c.loop-i.sum ≤ c.loop-i.i * 4294967295 = c.loop-i.invariant.small in let w : c.weight.result < 4294967296 = c.weight.type_inv in omega (arith, s, w);
}

pub returns-clause-sum : goal.returns-clause-sum
returns-clause-sum c = c.loop-i.invariant.sum ∙ sum_all (weight c.args.w.now) c.args.perm.now c.loop-i.i (let e = c.len-i-end.ensures in let l = c.loop-i-test.false in omega (arith, e, l))
