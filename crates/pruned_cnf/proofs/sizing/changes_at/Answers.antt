use Rattle.std.proofs.Common.{◌≤◌, ◌<◌, ◌∙◌, length, ap, sym, arith}
use Rattle.std.specs.List.{sum_by}
use Rattle.std.proofs.lemmas.List.{take_all}
use Rattle.formula_law.specs.Frames.{Frame}
use Rattle.pruned_cnf.specs.Sizes.{size_of_change}
use Rattle.pruned_cnf.specs.Queries.{live_in}
use Rattle.pruned_cnf.proofs.LayerSizes.{changes_on, change_size}
use Rattle.pruned_cnf.proofs.sizing.changes_at.Goals as goal

pub loop-n-preserved : goal.loop-n-preserved
loop-n-preserved c =
    let q = c.args.query.now in
    let s = ap (λ (F : Frame). length F.segments) c.lists.ensures.lists in
    let l : c.loop-n.n < length q.frame.segments = omega (arith, s, c.loop-n-test.true, c.segments-n-end.ensures.count) in
    changes_on q c.args.t c.loop-n.n c.loop-n.count c.from.result c.from-in-loop-n.result c.is_live.result c.is_live-in-loop-n.result l c.from.ensures c.from-in-loop-n.ensures c.is_live.ensures c.is_live-in-loop-n.ensures c.loop-n.invariant

pub returns-clause-count : goal.returns-clause-count
returns-clause-count c =
    let q = c.args.query.now in
    let s = ap (λ (F : Frame). length F.segments) c.lists.ensures.lists in
    let l : length q.frame.segments ≤ c.loop-n.n = omega (arith, s, c.loop-n-test.false, c.segments-n-end.ensures.count) in
    c.loop-n.invariant.0
    ∙ ap (sum_by (size_of_change q c.args.t)) (take_all c.loop-n.n q.frame.segments l)
    ∙ sym (change_size q.frame (live_in q) q.rounds c.args.t)
