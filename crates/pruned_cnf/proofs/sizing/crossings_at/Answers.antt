use Rattle.std.proofs.Common.{◌≤◌, ◌<◌, ◌∙◌, length, ap, sym, arith}
use Rattle.std.specs.List.{filter}
use Rattle.std.proofs.lemmas.List.{take_all}
use Rattle.formula_law.specs.Frames.{Frame}
use Rattle.pruned_cnf.specs.Queries.{live_in}
use Rattle.pruned_cnf.specs.Sizes.{is_live_pair}
use Rattle.pruned_cnf.proofs.LayerSizes.{counted_on, crossing_size}
use Rattle.pruned_cnf.proofs.sizing.crossings_at.Goals as goal

pub loop-m-preserved : goal.loop-m-preserved
loop-m-preserved c =
    let q = c.args.query.now in
    let s = ap (λ (F : Frame). length F.crossings) c.lists.ensures.lists in
    let l : c.loop-m.m < length q.frame.crossings = omega (arith, s, c.loop-m-test.true, c.crossings-m-end.ensures.count) in
    counted_on (is_live_pair q c.args.t) q.frame.crossings c.loop-m.m c.loop-m.count c.from-count.result c.is_live_pair.result l c.from-count.ensures c.is_live_pair.ensures c.loop-m.invariant

pub returns-clause-count : goal.returns-clause-count
returns-clause-count c =
    let q = c.args.query.now in
    let s = ap (λ (F : Frame). length F.crossings) c.lists.ensures.lists in
    let l : length q.frame.crossings ≤ c.loop-m.m = omega (arith, s, c.loop-m-test.false, c.crossings-m-end.ensures.count) in
    c.loop-m.invariant.0 ∙ ap (λ gs. length (filter (is_live_pair q c.args.t) gs)) (take_all c.loop-m.m q.frame.crossings l) ∙ sym (crossing_size q.frame (live_in q) q.rounds c.args.t)
