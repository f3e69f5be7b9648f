use Rattle.std.proofs.Common.{◌≡◌, ◌∙◌, sym, subst}
use Rattle.std.specs.List.{list_all}
use Rattle.formula_law.specs.Formula.{sides}
use Rattle.formula_parts.specs.Building.{pair_at}
use Rattle.formula_parts.specs.Lists.{edge_at, linked, pair_of}
use Rattle.pruned_cnf.specs.Queries.{Query, is_live_flip_in, stays_in}
use Rattle.pruned_cnf.proofs.Held.{and_then, and_else}
use Rattle.pruned_cnf.proofs.query.Query.is_live_flip.Goals as goal

pub returns-then-are_ends_live : goal.returns-then-are_ends_live
returns-then-are_ends_live c =
    let pair = subst (λ (q : Query). pair_at q.frame.flips c.args.n ≡ linked q.frame.segments c.flip-edge.result) c.self.view_is c.flip-edge.ensures.pair in
    let first = subst (λ (q : Query). c.segment.result ≡ edge_at q.frame.segments c.flip-edge.result.0) c.self.view_is c.segment.ensures in
    let second = subst (λ (q : Query). c.segment-then-are_ends_live.result ≡ edge_at q.frame.segments c.flip-edge.result.1) c.self.view_is c.segment-then-are_ends_live.ensures in
    subst (λ g. c.are_sides_live.result ≡ is_live_flip_in c.args.self.now c.args.t g) (sym pair)
    (and_then c.if-are_ends_live.true c.are_ends_live.ensures (c.are_sides_live.ensures ∙ (λ i. list_all (stays_in c.args.self.now c.args.t) (sides c.args.self.now.frame (pair_of (first i) (second i))))))

pub returns-else-are_ends_live : goal.returns-else-are_ends_live
returns-else-are_ends_live c =
    let F = c.args.self.now.frame in
    let pair = subst (λ (q : Query). pair_at q.frame.flips c.args.n ≡ linked q.frame.segments c.flip-edge.result) c.self.view_is c.flip-edge.ensures.pair in
    subst (λ g. c.are_ends_live.result ≡ is_live_flip_in c.args.self.now c.args.t g) (sym pair)
    (and_else (list_all (stays_in c.args.self.now c.args.t) (sides F (linked F.segments c.flip-edge.result))) c.if-are_ends_live.false c.are_ends_live.ensures)
