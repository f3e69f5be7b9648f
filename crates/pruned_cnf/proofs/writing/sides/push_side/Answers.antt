use Rattle.std.proofs.Common.{◌≡◌, ◌∙◌, ◌<◌, ◌++◌, length, Contains, OnOk, refl, sym, subst, arith}
use Rattle.edge_table.specs.Edges.{edge}
use Rattle.formula_law.specs.Frames.{Frame}
use Rattle.formula_parts.specs.Lists.{edge_at}
use Rattle.pruned_cnf.specs.Groups.{stays}
use Rattle.pruned_cnf.proofs.writing.sides.push_side.Goals as goal

pub number-requires : goal.number-requires
number-requires c =
    subst (λ (F : Frame). Contains F.segments c.in-Some.e) (sym c.lists_of-lists.ensures.lists) (subst (Contains c.args.numbering.now.frame.segments) (sym c.in-Some.ensures.ends) c.requires.segment)

pub push_stay-requires-clause-rounds : goal.push_stay-requires-clause-rounds
push_stay-requires-clause-rounds c = let r = c.lists_of-lists.ensures.query.rounds in let l = c.requires.round in omega arith

pub push_stay-requires-clause-within : goal.push_stay-requires-clause-within
push_stay-requires-clause-within c = subst (λ (F : Frame). c.number.result < length F.segments) c.lists_of-lists.ensures.lists c.number.ensures.within

pub unreachable-requires : goal.unreachable-requires
unreachable-requires c = let i = c.in-None.ensures.none.0 refl in let l = ((c.lists_of-lists.ensures.query.frame.segments _).0 c.requires.segment).low_first in omega (arith, i, l)

pub returns : goal.returns
returns c =
    let q = c.args.numbering.now in
    let at : edge_at q.frame.segments c.number.result ≡ edge c.args.a c.args.b = subst (λ (F : Frame). edge_at F.segments c.number.result ≡ c.in-Some.e) c.lists_of-lists.ensures.lists c.number.ensures.there ∙ c.in-Some.ensures.ends in
    subst (λ s. OnOk c.push_stay.result (c.push_stay.new.lits ≡ c.args.lits.now ++ stays q c.args.t s)) at c.push_stay.ensures
