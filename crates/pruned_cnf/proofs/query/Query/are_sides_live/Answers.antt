use Rattle.std.proofs.Common.{◌≡◌, ◌<◌, ◌≤◌, Contains, sym, subst, arith}
use Rattle.std.specs.List.{list_all}
use Rattle.formula_law.proofs.Clauses.{all_of}
use Rattle.formula_parts.specs.Building.{four}
use Rattle.formula_parts.proofs.Sides.{four_from, four_to, sides_from, sides_to}
use Rattle.pruned_cnf.specs.Queries.{IsQuery, stays_in}
use Rattle.pruned_cnf.proofs.query.Query.are_sides_live.Goals as goal

pub are_four_live-requires-clause-segments : goal.are_four_live-requires-clause-segments
are_four_live-requires-clause-segments c =
    let I = subst IsQuery c.self.view_is c.self.invariant.query in
    all_of (Contains c.args.self.now.frame.segments) (four c.args.e c.args.f) (four_from c.args.self.now.points I.placed c.args.self.now.frame I.frame c.args.e c.args.f c.requires.flip)

pub are_four_live-requires-else-low-clause-segments : goal.are_four_live-requires-else-low-clause-segments
are_four_live-requires-else-low-clause-segments c =
    let I = subst IsQuery c.self.view_is c.self.invariant.query in
    all_of (Contains c.args.self.now.frame.segments) (four c.args.f c.args.e) (four_to c.args.self.now.points I.placed c.args.self.now.frame I.frame c.args.e c.args.f c.requires.flip)

pub returns-then-low : goal.returns-then-low
returns-then-low c =
    let I = subst IsQuery c.self.view_is c.self.invariant.query in
    let l : c.args.e.0 < c.args.f.0 = omega (arith, c.if-low.true, c.low.ensures.low, c.low-2.ensures.low) in
    subst (λ s. c.are_four_live.result ≡ list_all (stays_in c.args.self.now c.args.t) s) (sym (sides_from c.args.self.now.points I.placed c.args.self.now.frame I.frame c.args.e c.args.f c.requires.flip l)) c.are_four_live.ensures

pub returns-else-low : goal.returns-else-low
returns-else-low c =
    let I = subst IsQuery c.self.view_is c.self.invariant.query in
    let l : c.args.f.0 ≤ c.args.e.0 = omega (arith, c.if-low.false, c.low.ensures.low, c.low-2.ensures.low) in
    subst (λ s. c.are_four_live-else-low.result ≡ list_all (stays_in c.args.self.now c.args.t) s) (sym (sides_to c.args.self.now.points I.placed c.args.self.now.frame I.frame c.args.e c.args.f c.requires.flip l)) c.are_four_live-else-low.ensures
