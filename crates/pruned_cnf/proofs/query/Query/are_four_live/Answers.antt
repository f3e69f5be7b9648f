use Rattle.std.proofs.Common.{◌&&◌, ◌∙◌, true, ap}
use Rattle.edge_table.specs.Edges.{edge}
use Rattle.pruned_cnf.specs.Queries.{stays_in}
use Rattle.pruned_cnf.proofs.Held.{four_then, four_else}
use Rattle.pruned_cnf.proofs.query.Query.are_four_live.Goals as goal

pub returns-then-are_two_live : goal.returns-then-are_two_live
returns-then-are_two_live c =
    let s = stays_in c.args.self.now c.args.t in
    four_then (s (edge c.args.e.0 c.args.f.0)) (s (edge c.args.e.0 c.args.f.1)) (s (edge c.args.e.1 c.args.f.0)) (s (edge c.args.e.1 c.args.f.1)) c.if-are_two_live.true
    (c.are_two_live.ensures ∙ ap (λ x. s (edge x c.args.f.0) && s (edge x c.args.f.1)) c.low.ensures.low)
    (c.are_two_live-then-are_two_live.ensures ∙ ap (λ x. s (edge x c.args.f.0) && s (edge x c.args.f.1)) c.high.ensures.high)

pub returns-else-are_two_live : goal.returns-else-are_two_live
returns-else-are_two_live c =
    let s = stays_in c.args.self.now c.args.t in
    four_else (s (edge c.args.e.0 c.args.f.0)) (s (edge c.args.e.0 c.args.f.1)) (s (edge c.args.e.1 c.args.f.0) && (s (edge c.args.e.1 c.args.f.1) && true)) c.if-are_two_live.false
    (c.are_two_live.ensures ∙ ap (λ x. s (edge x c.args.f.0) && s (edge x c.args.f.1)) c.low.ensures.low)
