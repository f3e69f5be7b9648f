use Rattle.std.proofs.Common.{◌+◌, ◌/◌, sym, ap, ◌∙◌, map, arith}
use Rattle.bound_law.specs.Copies.{copy_lower}
use Rattle.plan_law.specs.Books.{lower_of}
use Rattle.match_bound.proofs.Sums.{sum_before, sum_more, sum_all}
use Rattle.verify_core.specs.Faults.{pair_row}
use Rattle.verify_core.proofs.bound.bound_of.Goals as goal

pub loop-c-preserved : goal.loop-c-preserved
loop-c-preserved c =
    let lower = copy_lower c.args.inst.now.weights (lower_of (map pair_row c.args.rows.now)) in
    record {
      sum = ap (λ s. s + c.copy_lower.result) c.loop-c.invariant.sum ∙ (ap (λ w. sum_before lower c.args.perm.now c.loop-c.c + w) c.copy_lower.ensures ∙ sym (sum_more lower c.args.perm.now c.loop-c.c c.at.result.now c.at.ensures));
      small = let s = c.loop-c.invariant.small in let w = c.copy_lower.type_inv in omega (arith, s, w);
    }

pub returns : goal.returns
returns c = ap (λ s. (s + 1) / 2) (c.loop-c.invariant.sum ∙ sum_all (copy_lower c.args.inst.now.weights (lower_of (map pair_row c.args.rows.now))) c.args.perm.now c.loop-c.c (let e = c.copies-c-end.ensures.copies in let l = c.loop-c-test.false in let long = c.requires.long in omega (arith, e, l, long)))
