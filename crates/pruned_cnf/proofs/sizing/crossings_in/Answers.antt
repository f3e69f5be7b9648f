use Rattle.std.proofs.Common.{◌≡◌, ◌+◌, ◌-◌, ◌*◌, length, ap, ap₂, ◌∙◌, arith}
use Rattle.std.specs.List.{sum_by, range_with_len}
use Rattle.formula_law.specs.Frames.{Frame}
use Rattle.pruned_cnf.specs.Sizes.{crossing_count}
use Rattle.pruned_cnf.proofs.LayerSizes.{has_middle}
use Rattle.pruned_cnf.proofs.sizing.crossings_in.Goals as goal

pub returns-clause-count : goal.returns-clause-count
returns-clause-count c =
    let q = c.args.query.now in
    let m = c.most_after_from-first.result in
    let n = c.most_before_to-last.result in
    let j = c.rounds-2.result - m - n in
    let whole : q.rounds ≡ m + j + n = omega (arith, c.if-rounds-first.false, c.rounds.ensures, c.rounds-2.ensures) in
    let middle = (has_middle q m j n c.lists.ensures.query c.most_after_from-first.ensures.most c.most_before_to-last.ensures.most whole).crossings in
    let later : m + j + 1 ≡ m + (j + 1) = omega arith in
    let last = ap (λ a. sum_by (crossing_count q) (range_with_len a n)) later in
    let pairs = c.from-pairs.ensures ∙ c.crossings.ensures.count ∙ ap (λ (F : Frame). length F.crossings) c.lists.ensures.lists in
    let product = ap₂ ◌*◌ c.from.ensures pairs in
    omega (arith, middle, last, product, c.crossings_from-2.ensures.count, c.crossings_from-3.ensures.count)
