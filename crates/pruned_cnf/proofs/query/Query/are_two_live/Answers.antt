use Rattle.std.proofs.Common.{◌∙◌, ap}
use Rattle.edge_table.specs.Edges.{edge}
use Rattle.pruned_cnf.specs.Queries.{stays_in}
use Rattle.pruned_cnf.proofs.Held.{and_then, and_else}
use Rattle.pruned_cnf.proofs.query.Query.are_two_live.Goals as goal

pub returns-then-is_side_live : goal.returns-then-is_side_live
returns-then-is_side_live c =
    and_then c.if-is_side_live.true
    (c.is_side_live.ensures ∙ ap (λ x. stays_in c.args.self.now c.args.t (edge c.args.a x)) c.low.ensures.low)
    (c.is_side_live-then-is_side_live.ensures ∙ ap (λ x. stays_in c.args.self.now c.args.t (edge c.args.a x)) c.high.ensures.high)

pub returns-else-is_side_live : goal.returns-else-is_side_live
returns-else-is_side_live c =
    and_else (stays_in c.args.self.now c.args.t (edge c.args.a c.args.f.1)) c.if-is_side_live.false
    (c.is_side_live.ensures ∙ ap (λ x. stays_in c.args.self.now c.args.t (edge c.args.a x)) c.low.ensures.low)
