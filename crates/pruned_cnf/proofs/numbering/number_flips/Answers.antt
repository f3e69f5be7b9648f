use Rattle.std.proofs.Common.{◌≡◌, ◌∙◌, ◌++◌, sym, ap, arith}
use Rattle.pruned_cnf.specs.Queries.{live_in}
use Rattle.pruned_cnf.specs.Numbered.{round_numbers, flips_before}
use Rattle.pruned_cnf.proofs.Numbers.{rows_more, flips_sum}
use Rattle.pruned_cnf.proofs.numbering.number_flips.Goals as goal

pub loop-t-preserved : goal.loop-t-preserved
loop-t-preserved c = record {
  entries = let q = c.args.query.now in c.in_ok-number_round.ensures.entries ∙ ap (λ ys. ys ++ round_numbers q c.loop-t.t) c.loop-t.invariant.entries ∙ sym (rows_more (round_numbers q) c.loop-t.t);
  last = c.in_ok-number_round.ensures.last;
}

pub returns-clause-last : goal.returns-clause-last
returns-clause-last c =
    let q = c.args.query.now in
    let e : c.loop-t.t ≡ q.rounds = omega arith in
    let u : c.loop-t.numbers.last ≡ flips_before q q.rounds = c.loop-t.invariant.last ∙ ap (flips_before q) e in
    omega (arith, u, flips_sum q.frame (live_in q) q.rounds)
