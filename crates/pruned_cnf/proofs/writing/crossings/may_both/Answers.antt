use Rattle.std.proofs.Common.{◌≡◌, ◌∙◌, ◌<◌, ◌&&◌, length, sym, ap, subst}
use Rattle.formula_law.specs.Frames.{Pair, Frame}
use Rattle.formula_parts.specs.Building.{pair_at}
use Rattle.formula_parts.specs.Lists.{edge_at, linked}
use Rattle.pruned_cnf.specs.Queries.{live_in}
use Rattle.pruned_cnf.proofs.writing.crossings.may_both.Goals as goal

pub can_be_there-requires : goal.can_be_there-requires
can_be_there-requires c = subst (λ (F : Frame). c.crossing-g.result.0 < length F.segments) c.lists_of.ensures.lists c.crossing-g.ensures.within.0

pub can_be_there-requires-then-can_be_there : goal.can_be_there-requires-then-can_be_there
can_be_there-requires-then-can_be_there c = subst (λ (F : Frame). c.crossing-g.result.1 < length F.segments) c.lists_of.ensures.lists c.crossing-g.ensures.within.1

pub returns-then-can_be_there : goal.returns-then-can_be_there
returns-then-can_be_there c =
    let q = c.args.numbering.now in
    let g = c.crossing-g.result in
    let is : pair_at q.frame.crossings c.args.n ≡ linked q.frame.segments g = subst (λ (F : Frame). pair_at F.crossings c.args.n ≡ linked F.segments g) c.lists_of.ensures.lists c.crossing-g.ensures.pair in
    c.can_be_there-then-can_be_there.ensures ∙ sym (ap (λ b. b && live_in q c.args.t (edge_at q.frame.segments g.1)) (sym c.can_be_there.ensures ∙ c.if-can_be_there.true))
    ∙ ap (λ (p : Pair). live_in q c.args.t p.0 && live_in q c.args.t p.1) (sym is)

pub returns-else-can_be_there : goal.returns-else-can_be_there
returns-else-can_be_there c =
    let q = c.args.numbering.now in
    let g = c.crossing-g.result in
    let is : pair_at q.frame.crossings c.args.n ≡ linked q.frame.segments g = subst (λ (F : Frame). pair_at F.crossings c.args.n ≡ linked F.segments g) c.lists_of.ensures.lists c.crossing-g.ensures.pair in
    c.if-can_be_there.false ∙ sym (ap (λ b. b && live_in q c.args.t (edge_at q.frame.segments g.1)) (sym c.can_be_there.ensures ∙ c.if-can_be_there.false))
    ∙ ap (λ (p : Pair). live_in q c.args.t p.0 && live_in q c.args.t p.1) (sym is)
