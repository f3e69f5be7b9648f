use Rattle.std.proofs.Common.{ap₂, ◌∙◌, arith}
use Rattle.edge_table.specs.Edges.{edge}
use Rattle.tri_check.proofs.Ways.{link_past, link_more}
use Rattle.tri_check.proofs.hull.add_link.Goals as goal

pub returns-then-j-chain : goal.returns-then-j-chain
returns-then-j-chain c = link_past c.args.before.now c.args.edges.now c.args.chain.now c.args.j (omega (arith, c.if-j-chain.true)) c.requires.links

pub returns-in_ok-insert-in-Some : goal.returns-in_ok-insert-in-Some
returns-in_ok-insert-in-Some c =
    link_more c.args.before.now c.args.edges.now c.insert.new.self c.args.chain.now c.args.j c.in-Some.e (omega (arith, c.if-j-chain.false)) c.requires.links c.in_ok-insert-in-Some.ensures.ok c.in_ok-insert-in-Some.ensures.ascending
    (c.in-Some.ensures.ends ∙ ap₂ edge c.number_at.ensures c.number_at-2.ensures)
