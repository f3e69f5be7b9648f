use Rattle.std.proofs.Common.{◌≡◌, ◌+◌, ◌-◌, length, ap, ◌∙◌, arith}
use Rattle.formula_law.specs.Frames.{Frame}
use Rattle.pruned_cnf.proofs.LayerSizes.{has_middle, two_products}
use Rattle.pruned_cnf.proofs.sizing.rounds_in.Goals as goal

pub returns-clause-count : goal.returns-clause-count
returns-clause-count c =
    let q = c.args.query.now in
    let m = c.most_after_from-first.result in
    let n = c.most_before_to-last.result in
    let j = c.rounds-2.result - m - n in
    let whole : q.rounds ≡ m + j + n = omega (arith, c.if-rounds-first.false, c.rounds.ensures, c.rounds-2.ensures) in
    let middle = has_middle q m j n c.lists-lists.ensures.query c.most_after_from-first.ensures.most c.most_before_to-last.ensures.most whole in
    let flips = c.from.ensures ∙ c.flips.ensures.count ∙ ap (λ (F : Frame). length F.flips) c.lists-lists.ensures.lists in
    let segments = c.from-2.ensures ∙ c.segments.ensures.count ∙ ap (λ (F : Frame). length F.segments) c.lists-lists.ensures.lists in
    let product = two_products c.from-3.ensures flips segments in
    omega (arith, middle.flips, middle.changes, product, c.rounds_from-2.ensures.count, c.rounds_from-3.ensures.count)
