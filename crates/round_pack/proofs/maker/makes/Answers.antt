use Rattle.std.proofs.Common.{◌∙◌, sym, ap}
use Rattle.flip_list_law.specs.FlipLists.{triangle, is_same, makes}
use Rattle.round_pack.proofs.Makers.{or_by_first, or_by_second, not_made}
use Rattle.round_pack.proofs.maker.makes.Goals as goal

pub returns-then-low-t-2 : goal.returns-then-low-t-2
returns-then-low-t-2 c =
    not_made c.args.flip.now c.args.t c.low-low.ensures.below (λ e. c.if-low-t.true (c.low-low.ensures.low ∙ e)) (λ e. c.if-low-t-2.true (c.low-low.ensures.low ∙ e))

pub returns-then-first : goal.returns-then-first
unfolding makes
returns-then-first c =
    let first = c.is_same-first.ensures ∙ ap (λ s. is_same c.args.t s) (c.triangle.ensures ∙ ap (λ k. triangle c.args.flip.now.image.0 c.args.flip.now.image.1 k) c.low.ensures.low) in
    first ∙ or_by_first _ _ (sym first ∙ c.if-first.true)

pub returns-else-first : goal.returns-else-first
unfolding makes
returns-else-first c =
    let first = c.is_same-first.ensures ∙ ap (λ s. is_same c.args.t s) (c.triangle.ensures ∙ ap (λ k. triangle c.args.flip.now.image.0 c.args.flip.now.image.1 k) c.low.ensures.low) in
    let second = c.is_same-second.ensures ∙ ap (λ s. is_same c.args.t s) (c.triangle-2.ensures ∙ ap (λ k. triangle c.args.flip.now.image.0 c.args.flip.now.image.1 k) c.high.ensures.high) in
    second ∙ or_by_second _ _ (sym first ∙ c.if-first.false)
