use Rattle.std.proofs.Common.{◌∙◌, ℕ, List, [], ◌++◌, Contains, sym, subst₂, arith}
use Rattle.edge_table.specs.Edges.{edge}
use Rattle.log_law.specs.declared.Lit.{Lit}
use Rattle.formula_parts.specs.Lists.{no_edge}
use Rattle.pruned_cnf.specs.Groups.{stays}
use Rattle.pruned_cnf.proofs.AddedWhere.{four_put}
use Rattle.pruned_cnf.proofs.writing.sides.push_four.Goals as goal

pub push_side-requires-clause-segment : goal.push_side-requires-clause-segment
push_side-requires-clause-segment c = subst₂ (λ x y. Contains c.args.numbering.now.frame.segments (edge x y)) (sym c.low-a.ensures.low) (sym c.low-b.ensures.low) (c.requires.segments 0 no_edge (omega arith))

pub push_side-requires-2-clause-segment : goal.push_side-requires-2-clause-segment
push_side-requires-2-clause-segment c = subst₂ (λ x y. Contains c.args.numbering.now.frame.segments (edge x y)) (sym c.low-a.ensures.low) (sym c.high-d.ensures.high) (c.requires.segments 1 no_edge (omega arith))

pub push_side-requires-3-clause-segment : goal.push_side-requires-3-clause-segment
push_side-requires-3-clause-segment c = subst₂ (λ x y. Contains c.args.numbering.now.frame.segments (edge x y)) (sym c.high-c.ensures.high) (sym c.low-b.ensures.low) (c.requires.segments 2 no_edge (omega arith))

pub push_side-requires-4-clause-segment : goal.push_side-requires-4-clause-segment
push_side-requires-4-clause-segment c = subst₂ (λ x y. Contains c.args.numbering.now.frame.segments (edge x y)) (sym c.high-c.ensures.high) (sym c.high-d.ensures.high) (c.requires.segments 3 no_edge (omega arith))

pub returns : goal.returns
returns c =
    let s : ℕ → ℕ → List Lit = λ x y. stays c.args.numbering.now c.args.t (edge x y) in
    four_put c.args.lits.now c.push_side.new.lits c.push_side-2.new.lits c.push_side-3.new.lits c.push_side-4.new.lits (s c.low-a.result c.low-b.result) (s c.low-a.result c.high-d.result) (s c.high-c.result c.low-b.result) (s c.high-c.result c.high-d.result)
    c.in_ok-push_side.ensures c.in_ok-push_side-2.ensures c.in_ok-push_side-3.ensures c.in_ok-push_side-4.ensures
    ∙ (λ i. c.args.lits.now ++ (s (c.low-a.ensures.low i) (c.low-b.ensures.low i) ++ (s (c.low-a.ensures.low i) (c.high-d.ensures.high i) ++ (s (c.high-c.ensures.high i) (c.low-b.ensures.low i) ++ (s (c.high-c.ensures.high i) (c.high-d.ensures.high i) ++ [])))))
