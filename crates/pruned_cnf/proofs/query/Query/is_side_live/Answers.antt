use Rattle.std.proofs.Common.{◌≡◌, ◌∙◌, refl, ap, subst, arith}
use Rattle.formula_law.specs.Frames.{IsFrame}
use Rattle.formula_parts.specs.Lists.{edge_at}
use Rattle.pruned_cnf.specs.Queries.{Query, stays_in}
use Rattle.pruned_cnf.proofs.query.Query.is_side_live.Goals as goal

pub unreachable-requires : goal.unreachable-requires
unreachable-requires c =
    let i = c.in-None.ensures.none.0 refl in
    let I = subst (λ (q : Query). IsFrame q.points q.frame) c.self.view_is c.self.invariant.query.frame in
    let l = ((I.segments _).0 c.requires.segment).low_first in
    omega (arith, i, l)

pub returns : goal.returns
returns c =
    let there = subst (λ (q : Query). edge_at q.frame.segments c.number-n.result ≡ c.in-Some.e) c.self.view_is c.number-n.ensures.there in
    c.are_ends_live.ensures ∙ ap (stays_in c.args.self.now c.args.t) (there ∙ c.in-Some.ensures.ends)
