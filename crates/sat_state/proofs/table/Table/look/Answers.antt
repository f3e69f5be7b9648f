use Rattle.std.proofs.Common.{◌≡◌, ◌<◌, Some, [], length, sym, ap, subst, arith}
use Rattle.std.specs.Prelude.{slice_get}
use Rattle.std.proofs.lemmas.List.{get_or_read}
use Rattle.std.proofs.lemmas.List.Elements.{All-contains}
use Rattle.log_law.specs.declared.Lit.{Lit}
use Rattle.log_law.specs.Clauses.{Clause, IsVariable, IsClause}
use Rattle.log_law.specs.Units.{remaining, IsFalsified, IsUnit, IsStill}
use Rattle.log_law.specs.Trails.{literals}
use Rattle.sat_state.specs.Tables.{Table, clause_no}
use Rattle.sat_state.proofs.Counting.{look_many, look_few, none_left, still_assigned, unit_left, first_member, some_assigned, none_unassigned}
use Rattle.sat_state.proofs.table.Table.look.Goals as goal

pub returns-then-index-gt1 : goal.returns-then-index-gt1
returns-then-index-gt1 c =
    let n = ap (λ (t : Table). length t.clauses) c.self.view_is in
    let b : c.args.c < length c.self.inside.left.items = omega (arith, n, c.requires, c.self.invariant.counters) in
    subst (λ (t : Table). IsStill (literals t.steps) (clause_no t.clauses c.args.c)) c.self.view_is
    (look_many (literals c.self.inside.steps.steps) c.self.inside.clauses.items c.self.inside.left.items c.args.c c.index.result.now c.self.invariant.counted b c.index.ensures c.if-index-gt1.true)

pub first_open-requires : goal.first_open-requires
first_open-requires c =
    let n = ap (λ (t : Table). length t.clauses) c.self.view_is in
    let b : c.args.c < length c.self.inside.clauses.items = omega (arith, n, c.requires) in
    subst (IsClause c.self.inside.steps.variables) (sym c.index-2.ensures) (c.self.invariant.clauses_fit c.args.c c.index-2.result.now b)

pub value-requires : goal.value-requires
value-requires c =
    let n = ap (λ (t : Table). length t.clauses) c.self.view_is in
    let b : c.args.c < length c.self.inside.clauses.items = omega (arith, n, c.requires) in
    let fit = subst (IsClause c.self.inside.steps.variables) (sym c.index-2.ensures) (c.self.invariant.clauses_fit c.args.c c.index-2.result.now b) in
    All-contains (λ (l : Lit). IsVariable c.self.inside.steps.variables l.var) c.index-2.result.now c.in-Some.l fit.in_range (first_member (literals c.self.inside.steps.steps) c.index-2.result.now c.in-Some.l c.in-Some.ensures)

pub returns-in-None : goal.returns-in-None
returns-in-None c =
    let n = ap (λ (t : Table). length t.clauses) c.self.view_is in
    let b : c.args.c < length c.self.inside.clauses.items = omega (arith, n, c.requires) in
    subst (λ (t : Table). IsFalsified (literals t.steps) (clause_no t.clauses c.args.c)) c.self.view_is
    (subst (IsFalsified (literals c.self.inside.steps.steps)) (get_or_read c.self.inside.clauses.items c.args.c c.index-2.result.now b c.index-2.ensures [])
    (none_left (literals c.self.inside.steps.steps) c.index-2.result.now c.in-None.ensures))

pub returns-then-is_some : goal.returns-then-is_some
returns-then-is_some c =
    let n = ap (λ (t : Table). length t.clauses) c.self.view_is in
    let b : c.args.c < length c.self.inside.clauses.items = omega (arith, n, c.requires) in
    let e = get_or_read c.self.inside.clauses.items c.args.c c.index-2.result.now b c.index-2.ensures [] in
    let one = look_few (literals c.self.inside.steps.steps) c.self.inside.clauses.items c.self.inside.left.items c.args.c c.index.result.now c.in-Some.l c.self.invariant.counted (omega (arith, b, c.self.invariant.counters)) c.index.ensures c.if-index-gt1.false
    (subst (λ (d : Clause). Some c.in-Some.l ≡ slice_get (remaining (literals c.self.inside.steps.steps) d) 0) e c.in-Some.ensures) in
    subst (λ (t : Table). IsStill (literals t.steps) (clause_no t.clauses c.args.c)) c.self.view_is
    (still_assigned (literals c.self.inside.steps.steps) (clause_no c.self.inside.clauses.items c.args.c) c.in-Some.l one (some_assigned (literals c.self.inside.steps.steps) c.in-Some.l.var c.value.result c.value.ensures c.if-is_some.ensures))

pub returns-else-is_some : goal.returns-else-is_some
returns-else-is_some c =
    let n = ap (λ (t : Table). length t.clauses) c.self.view_is in
    let b : c.args.c < length c.self.inside.clauses.items = omega (arith, n, c.requires) in
    let e = get_or_read c.self.inside.clauses.items c.args.c c.index-2.result.now b c.index-2.ensures [] in
    let one = look_few (literals c.self.inside.steps.steps) c.self.inside.clauses.items c.self.inside.left.items c.args.c c.index.result.now c.in-Some.l c.self.invariant.counted (omega (arith, b, c.self.invariant.counters)) c.index.ensures c.if-index-gt1.false
    (subst (λ (d : Clause). Some c.in-Some.l ≡ slice_get (remaining (literals c.self.inside.steps.steps) d) 0) e c.in-Some.ensures) in
    subst (λ (t : Table). IsUnit (literals t.steps) (clause_no t.clauses c.args.c) c.in-Some.l) c.self.view_is
    (unit_left (literals c.self.inside.steps.steps) (clause_no c.self.inside.clauses.items c.args.c) c.in-Some.l one (none_unassigned (literals c.self.inside.steps.steps) c.in-Some.l.var c.value.result c.value.ensures c.if-is_some.ensures))
