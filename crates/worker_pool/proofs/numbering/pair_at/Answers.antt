use Rattle.std.proofs.Common.{◌∙◌, ◌≤◌, ℕ, ◌+◌, ◌-◌, sym, ap, subst, arith}
use Rattle.worker_pool.proofs.Pairs.{begins, past_row, still_in, is_pair, Left}
use Rattle.worker_pool.proofs.numbering.pair_at.Goals as goal

pub loop-i-init : goal.loop-i-init
loop-i-init c = begins c.args.m c.args.place c.requires.place

pub returns-then-left-row : goal.returns-then-left-row
returns-then-left-row c =
    is_pair c.args.m c.loop-i.i c.loop-i.left c.args.place c.loop-i-test.true (let l = c.if-left-row.true in let e = c.from-row.ensures in omega (arith, l, e)) c.loop-i.invariant.1

pub loop-i-preserved : goal.loop-i-preserved
loop-i-preserved c =
    let l : c.args.m - 1 - c.loop-i.i ≤ c.loop-i.left = (let f = c.if-left-row.false in let e = c.from-row.ensures in omega (arith, f, e)) in
    subst (Left c.args.m c.args.place (c.loop-i.i + 1)) (ap (λ (r : ℕ). c.loop-i.left - r) (sym c.from-row.ensures))
    (still_in c.args.m c.loop-i.i c.loop-i.left c.loop-i-test.true l c.loop-i.invariant.0, sym (past_row c.args.m c.loop-i.i c.loop-i.left c.loop-i-test.true l) ∙ c.loop-i.invariant.1)
