use Rattle.std.proofs.Common.{◌≡◌, ◌<◌, ℕ, List, ◌++◌, ◌∷◌, [], length, take, drop, sym, ap, ◌∙◌, subst, arith}
use Rattle.std.specs.Prelude.{All}
use Rattle.std.proofs.lemmas.List.{take_at}
use Rattle.log_law.specs.Clauses.{Clause, IsClause}
use Rattle.sat_state.specs.Tables.{Table, slots, enlisted}
use Rattle.sat_state.proofs.Tabling.{table_slots, table_hold, table_as}
use Rattle.sat_state.proofs.Indexing.{enlisted_length}
use Rattle.sat_state.proofs.table.Table.hold.Goals as goal

pub enlist-requires : goal.enlist-requires
enlist-requires c =
    let fit = subst (λ (t : Table). IsClause t.variables c.args.clause) (sym c.self.view_is) c.requires.fits in
    subst (λ (uses : List (List ℕ)). All (λ s. s < length uses) (slots c.args.clause)) (sym c.deref_mut.ensures.value)
    (table_slots c.self.inside.steps.variables c.self.inside.clauses.items c.self.inside.steps.steps c.self.inside.uses.items c.self.inside.left.items c.args.clause c.self.invariant fit)

pub invariant_of-self-2 : goal.invariant_of-self-2
invariant_of-self-2 c =
    let fit = subst (λ (t : Table). IsClause t.variables c.args.clause) (sym c.self.view_is) c.requires.fits in
    let few = ap (λ (t : Table). length t.clauses) c.self.view_is in
    let made = c.in_ok-enlist.ensures.ok ∙ ap (λ (uses : List (List ℕ)). enlisted uses (slots c.args.clause) c.len-number.result) c.deref_mut.ensures.value in
    let long = ap length made ∙ enlisted_length c.self.inside.uses.items (slots c.args.clause) c.len-number.result in
    let uses = take_at c.enlist.new.uses (drop (length c.enlist.new.uses) c.self.inside.uses.items) c.self.inside.uses.len (omega (arith, long, c.self.inside.uses.ok.0)) ∙ made in
    let clauses = c.push_reserved-2.ensures.items ∙ ap (λ (cs : List Clause). cs ++ c.args.clause ∷ []) c.in_ok-reserve-2.ensures.items in
    let left = c.push_reserved.ensures.items ∙ ap (λ (ns : List ℕ). ns ++ c.count_open-open.result ∷ []) c.in_ok-reserve.ensures.items in
    let number : c.len-number.result ≡ length c.self.inside.clauses.items = omega (arith, c.len-number.ensures, c.self.inside.clauses.ok.0) in
    table_as c.self.inside.steps.variables c.push_reserved-2.new.self.items (c.self.inside.clauses.items ++ c.args.clause ∷ []) c.self.inside.steps.steps
    (take c.self.inside.uses.len (c.enlist.new.uses ++ drop (length c.enlist.new.uses) c.self.inside.uses.items)) (enlisted c.self.inside.uses.items (slots c.args.clause) c.len-number.result)
    c.push_reserved.new.self.items (c.self.inside.left.items ++ c.count_open-open.result ∷ []) clauses uses left
    (table_hold c.self.inside.steps.variables c.self.inside.clauses.items c.self.inside.steps.steps c.self.inside.uses.items c.self.inside.left.items c.args.clause c.count_open-open.result c.len-number.result c.self.invariant fit (omega (arith, few, c.requires.room)) number c.count_open-open.ensures)
