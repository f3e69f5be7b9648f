use Rattle.std.proofs.Common.{◌≡◌, ◌+◌, length, ap, arith}
use Rattle.std.specs.List.{filter}
use Rattle.pruned_cnf.specs.Queries.{live_in}
use Rattle.pruned_cnf.specs.Numbered.{places_before}
use Rattle.pruned_cnf.proofs.Numbers.{sum_more, places_sum}
use Rattle.pruned_cnf.proofs.decoding.count_places.Goals as goal

pub loop-t-preserved : goal.loop-t-preserved
loop-t-preserved c =
    let q = c.args.query.now in
    (omega (arith, c.loop-t.invariant.0, c.count_layer-live.ensures.count, sum_more (λ u. length (filter (live_in q u) q.frame.segments)) c.loop-t.t), omega (arith, c.loop-t.invariant.1, c.count_layer-live.ensures.few))

pub returns-2-clause-count : goal.returns-2-clause-count
returns-2-clause-count c =
    let q = c.args.query.now in
    let e : c.loop-t.t ≡ q.rounds = omega arith in
    omega (arith, c.loop-t.invariant.0, c.count_layer-live.ensures.count, sum_more (λ u. length (filter (live_in q u) q.frame.segments)) c.loop-t.t, ap (λ t. places_before q (t + 1)) e, places_sum q.frame (live_in q) q.rounds)

pub returns-2-clause-few : goal.returns-2-clause-few
returns-2-clause-few c =
    let q = c.args.query.now in
    let e : c.loop-t.t ≡ q.rounds = omega arith in
    omega (arith, e, c.loop-t.invariant.1, c.count_layer-live.ensures.few)
