use Rattle.std.proofs.Common.{◌≡◌, ◌+◌, ◌∙◌, ap, sym, subst}
use Rattle.formula_law.specs.Frames.{Pair, Frame}
use Rattle.formula_parts.specs.Building.{pair_at}
use Rattle.formula_parts.specs.Lists.{linked}
use Rattle.pruned_cnf.specs.Queries.{live_in}
use Rattle.pruned_cnf.proofs.LayerSizes.{flip_sized}
use Rattle.pruned_cnf.proofs.sizing.flip_at.Goals as goal

pub returns-clause-count : goal.returns-clause-count
returns-clause-count c =
    let q = c.args.query.now in
    let pair = subst (λ (F : Frame). pair_at F.flips c.args.n ≡ linked F.segments c.flip-edge.result) c.lists-lists.ensures.lists c.flip-edge.ensures.pair in
    flip_sized q c.args.t c.from.result c.from-2.result c.is_live.result c.is_live-2.result (pair_at q.frame.flips c.args.n) (sym c.is_live_flip.ensures ∙ c.if-not-is_live_flip.false) c.from.ensures c.from-2.ensures
    (c.is_live.ensures ∙ ap (λ (g : Pair). live_in q (c.args.t + 1) g.0) (sym pair))
    (c.is_live-2.ensures ∙ ap (λ (g : Pair). live_in q c.args.t g.1) (sym pair))
