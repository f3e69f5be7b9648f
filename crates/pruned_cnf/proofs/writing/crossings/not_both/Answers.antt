use Rattle.std.proofs.Common.{◌≡◌, ◌∙◌, ◌<◌, false, List, ◌++◌, length, sym, ap, subst}
use Rattle.log_law.specs.declared.Lit.{Lit}
use Rattle.formula_law.specs.Frames.{Frame}
use Rattle.formula_parts.specs.Building.{pair_at}
use Rattle.formula_parts.specs.Lists.{edge_at, linked}
use Rattle.pruned_cnf.specs.Groups.{place_literal, not_both}
use Rattle.pruned_cnf.proofs.writing.crossings.not_both.Goals as goal

pub push_if_live-requires-clause-within : goal.push_if_live-requires-clause-within
push_if_live-requires-clause-within c = subst (λ (F : Frame). c.crossing-g.result.0 < length F.segments) c.lists_of.ensures.lists c.crossing-g.ensures.within.0

pub push_if_live-requires-2-clause-within : goal.push_if_live-requires-2-clause-within
push_if_live-requires-2-clause-within c = subst (λ (F : Frame). c.crossing-g.result.1 < length F.segments) c.lists_of.ensures.lists c.crossing-g.ensures.within.1

pub returns : goal.returns
returns c =
    let q = c.args.numbering.now in
    let g = c.crossing-g.result in
    let is : pair_at q.frame.crossings c.args.n ≡ linked q.frame.segments g = subst (λ (F : Frame). pair_at F.crossings c.args.n ≡ linked F.segments g) c.lists_of.ensures.lists c.crossing-g.ensures.pair in
    let a = place_literal q c.args.t (edge_at q.frame.segments g.0) false in
    let b = place_literal q c.args.t (edge_at q.frame.segments g.1) false in
    c.in_ok-push_if_live-2.ensures ∙ ap (λ (ls : List Lit). ls ++ b) (c.in_ok-push_if_live.ensures ∙ ap (λ (ls : List Lit). ls ++ a) c.make-clause.ensures)
    ∙ ap (not_both q c.args.t) (sym is)
