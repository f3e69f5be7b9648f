use Rattle.std.proofs.Common.{◌≤◌, ◌∙◌, length, ap, sym, arith}
use Rattle.std.specs.List.{sum_by}
use Rattle.std.proofs.lemmas.List.{take_all}
use Rattle.formula_law.specs.Frames.{Frame}
use Rattle.pruned_cnf.specs.Sizes.{size_of_flip}
use Rattle.pruned_cnf.specs.Queries.{live_in}
use Rattle.pruned_cnf.proofs.LayerSizes.{flips_size}
use Rattle.pruned_cnf.proofs.sizing.flips_at.Goals as goal

pub returns-clause-count : goal.returns-clause-count
returns-clause-count c =
    let q = c.args.query.now in
    let I = c.lists.ensures.query in
    let s = ap (λ (F : Frame). length F.flips) c.lists.ensures.lists in
    let l : length q.frame.flips ≤ c.loop-n.n = omega (arith, s, c.loop-n-test.false, c.flips-n-end.ensures.count) in
    c.loop-n.invariant.0
    ∙ ap (sum_by (size_of_flip q c.args.t)) (take_all c.loop-n.n q.frame.flips l)
    ∙ sym (flips_size q.frame (live_in q) q.rounds c.args.t q.points I.placed I.frame)
