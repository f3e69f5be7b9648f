use Rattle.std.proofs.Common.{◌≡◌, ◌<◌, ◌≤◌, ◌++◌, Contains, OnOk, sym, subst, arith}
use Rattle.std.specs.List.{flat_map}
use Rattle.formula_law.proofs.Clauses.{all_of}
use Rattle.formula_parts.specs.Building.{four}
use Rattle.pruned_cnf.specs.Groups.{stays}
use Rattle.formula_parts.proofs.Sides.{four_from, four_to, sides_from, sides_to}
use Rattle.pruned_cnf.proofs.writing.sides.push_sides.Goals as goal

pub push_four-requires-clause-segments : goal.push_four-requires-clause-segments
push_four-requires-clause-segments c =
    all_of (Contains c.args.numbering.now.frame.segments) (four c.args.e c.args.f)
    (four_from c.args.numbering.now.points c.lists_of-lists.ensures.query.placed c.args.numbering.now.frame c.lists_of-lists.ensures.query.frame c.args.e c.args.f c.requires.flip)

pub push_four-requires-else-a-b-clause-segments : goal.push_four-requires-else-a-b-clause-segments
push_four-requires-else-a-b-clause-segments c =
    all_of (Contains c.args.numbering.now.frame.segments) (four c.args.f c.args.e)
    (four_to c.args.numbering.now.points c.lists_of-lists.ensures.query.placed c.args.numbering.now.frame c.lists_of-lists.ensures.query.frame c.args.e c.args.f c.requires.flip)

pub returns-then-a-b : goal.returns-then-a-b
returns-then-a-b c =
    let l : c.args.e.0 < c.args.f.0 = omega (arith, c.if-a-b.true, c.low-a.ensures.low, c.low-b.ensures.low) in
    subst (λ s. OnOk c.push_four.result (c.push_four.new.lits ≡ c.args.lits.now ++ flat_map (stays c.args.numbering.now c.args.t) s))
    (sym (sides_from c.args.numbering.now.points c.lists_of-lists.ensures.query.placed c.args.numbering.now.frame c.lists_of-lists.ensures.query.frame c.args.e c.args.f c.requires.flip l)) c.push_four.ensures

pub returns-else-a-b : goal.returns-else-a-b
returns-else-a-b c =
    let l : c.args.f.0 ≤ c.args.e.0 = omega (arith, c.if-a-b.false, c.low-a.ensures.low, c.low-b.ensures.low) in
    subst (λ s. OnOk c.push_four-else-a-b.result (c.push_four-else-a-b.new.lits ≡ c.args.lits.now ++ flat_map (stays c.args.numbering.now c.args.t) s))
    (sym (sides_to c.args.numbering.now.points c.lists_of-lists.ensures.query.placed c.args.numbering.now.frame c.lists_of-lists.ensures.query.frame c.args.e c.args.f c.requires.flip l)) c.push_four-else-a-b.ensures
