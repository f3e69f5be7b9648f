use Rattle.std.proofs.Common.{length, arith, ap}
use Rattle.formula_law.proofs.Proved.{pruned_clauses_are_counted}
use Rattle.pruned_cnf.specs.Queries.{live_in}
use Rattle.pruned_cnf.proofs.LayerSizes.{edges_few}
use Rattle.pruned_cnf.proofs.sizing.size.Goals as goal

pub overflow_add-ends : goal.overflow_add-ends
overflow_add-ends c =
    let q = c.args.query.now in
    let I = c.lists.ensures.query in
    let a = edges_few q.points q.from I.few I.from in
    let b = edges_few q.points q.to I.few I.to in
    let d = ap length c.from.ensures.edges in
    let e = ap length c.to.ensures.edges in
    omega (arith, a, b, d, e, c.len.ensures.len, c.len-2.ensures.len)

pub overflow_add-result : goal.overflow_add-result
overflow_add-result c =
    let q = c.args.query.now in
    let I = c.lists.ensures.query in
    let a = edges_few q.points q.from I.few I.from in
    let b = edges_few q.points q.to I.few I.to in
    let d = ap length c.from.ensures.edges in
    let e = ap length c.to.ensures.edges in
    omega (arith, a, b, d, e, c.len.ensures.len, c.len-2.ensures.len, c.crossings_in.ensures.few)

pub overflow_add-result-2 : goal.overflow_add-result-2
overflow_add-result-2 c =
    let q = c.args.query.now in
    let I = c.lists.ensures.query in
    let a = edges_few q.points q.from I.few I.from in
    let b = edges_few q.points q.to I.few I.to in
    let d = ap length c.from.ensures.edges in
    let e = ap length c.to.ensures.edges in
    omega (arith, a, b, d, e, c.len.ensures.len, c.len-2.ensures.len, c.crossings_in.ensures.few, c.rounds_in.ensures.few)

pub returns : goal.returns
returns c =
    let q = c.args.query.now in
    let d = ap length c.from.ensures.edges in
    let e = ap length c.to.ensures.edges in
    omega (arith, d, e, c.len.ensures.len, c.len-2.ensures.len, c.crossings_in.ensures.count, c.rounds_in.ensures.count, pruned_clauses_are_counted q.frame (live_in q) q.from q.to q.rounds)
