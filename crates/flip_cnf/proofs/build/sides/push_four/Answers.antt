use Rattle.std.proofs.Common.{Contains, sym, subst₂, arith}
use Rattle.edge_table.specs.Edges.{edge}
use Rattle.formula_parts.specs.Lists.{no_edge}
use Rattle.flip_cnf.proofs.build.sides.push_four.Goals as goal

pub push_side-requires-clause-segment : goal.push_side-requires-clause-segment
push_side-requires-clause-segment c = subst₂ (λ x y. Contains c.args.lists.now.segments (edge x y)) (sym c.low-a.ensures.low) (sym c.low-b.ensures.low) (c.requires.segments 0 no_edge (omega arith))

pub push_side-requires-2-clause-segment : goal.push_side-requires-2-clause-segment
push_side-requires-2-clause-segment c = subst₂ (λ x y. Contains c.args.lists.now.segments (edge x y)) (sym c.low-a.ensures.low) (sym c.high-d.ensures.high) (c.requires.segments 1 no_edge (omega arith))

pub push_side-requires-3-clause-segment : goal.push_side-requires-3-clause-segment
push_side-requires-3-clause-segment c = subst₂ (λ x y. Contains c.args.lists.now.segments (edge x y)) (sym c.high-c.ensures.high) (sym c.low-b.ensures.low) (c.requires.segments 2 no_edge (omega arith))

pub push_side-requires-4-clause-segment : goal.push_side-requires-4-clause-segment
push_side-requires-4-clause-segment c = subst₂ (λ x y. Contains c.args.lists.now.segments (edge x y)) (sym c.high-c.ensures.high) (sym c.high-d.ensures.high) (c.requires.segments 3 no_edge (omega arith))
