use Rattle.std.proofs.Common.{◌≡◌, ◌+◌, ◌<◌, length, sym, subst}
use Rattle.std.specs.Prelude.{leb}
use Rattle.formula_parts.specs.Lists.{edge_at}
use Rattle.pruned_cnf.specs.Queries.{Query, live_in}
use Rattle.pruned_cnf.proofs.Held.{live_then, live_else}
use Rattle.pruned_cnf.proofs.query.Query.is_live.Goals as goal

pub returns-then-index-t : goal.returns-then-index-t
returns-then-index-t c =
    let l = subst (λ (q : Query). c.args.n < length q.frame.segments) (sym c.self.view_is) c.requires in
    subst (λ (q : Query). leb (c.from.result + c.from-then-index-t.result) c.from-then-index-t-2.result ≡ live_in q c.args.t (edge_at q.frame.segments c.args.n)) c.self.view_is
    (live_then _ _ _ _ c.self.invariant c.args.t c.args.n c.index.result.now l c.index.ensures c.index-then-index-t.result.now c.if-index-t.true c.index-then-index-t.ensures c.from.ensures c.from-then-index-t.ensures c.from-then-index-t-2.ensures)

pub returns-else-index-t : goal.returns-else-index-t
returns-else-index-t c =
    let l = subst (λ (q : Query). c.args.n < length q.frame.segments) (sym c.self.view_is) c.requires in
    subst (λ (q : Query). leb c.index.result.now c.args.t ≡ live_in q c.args.t (edge_at q.frame.segments c.args.n)) c.self.view_is
    (live_else _ _ _ _ c.self.invariant c.args.t c.args.n c.index.result.now l c.index.ensures c.if-index-t.false)
