use Rattle.std.proofs.Common.{◌≡◌, ◌≤◌, replicate, sym, ap, ◌∙◌, subst, arith}
use Rattle.match_bound.specs.Tables.{IsTable}
use Rattle.match_bound.proofs.Zeros.{zeros_table}
use Rattle.match_bound.proofs.table.Weights.make.Goals as goal

pub invariant_of-result : goal.invariant_of-result
invariant_of-result c =
    let low : c.loop.counter ≤ c.args.m = c.loop.auto.counter-end in
    let high : c.args.m ≤ c.loop.counter = c.loop-test.false in
    let e : c.loop.counter ≡ c.args.m = omega (arith, low, high) in
    subst IsTable (sym (c.loop.invariant ∙ ap (λ n. replicate n (replicate c.args.m 0)) e)) (zeros_table c.args.m c.requires.0 c.requires.1)
