use Rattle.std.proofs.Common.{◌<◌, ◌∙◌, ℕ, List, [], length, get_or, Contains, sym, ap, subst}
use Rattle.std.proofs.lemmas.List.{get_or_read}
use Rattle.std.proofs.lemmas.List.Elements.{Contains-get_or}
use Rattle.log_law.specs.Clauses.{negated, IsVariable}
use Rattle.sat_state.specs.Tables.{Table, slot, uses_at}
use Rattle.sat_state.proofs.Indexing.{user_within}
use Rattle.sat_state.proofs.Tabling.{slot_in}
use Rattle.sat_state.proofs.table.Table.user.Goals as goal

pub returns-clause-within : goal.returns-clause-within
returns-clause-within c =
    let v = subst (λ (t : Table). IsVariable t.variables c.args.l.var) (sym c.self.view_is) c.requires.in_range in
    let b = slot_in c.self.inside.steps.variables c.negation.result c.args.l c.slot.result (length c.self.inside.uses.items) v c.negation.ensures c.slot.ensures.place c.self.invariant.wide in
    let list = get_or_read c.self.inside.uses.items c.slot.result c.index-list.result.now b c.index-list.ensures [] in
    let at = c.slot.ensures.place ∙ ap slot c.negation.ensures in
    let place = subst (λ s. c.args.k < length (uses_at c.self.inside.uses.items s)) (sym at) (subst (λ (t : Table). c.args.k < length (uses_at t.uses (slot (negated c.args.l)))) (sym c.self.view_is) c.requires.place) in
    let here = c.at.ensures ∙ ap (λ (xs : List ℕ). get_or xs c.args.k 0) list in
    subst (λ (t : Table). c.at.result < length t.clauses) c.self.view_is
    (user_within c.self.inside.clauses.items c.self.inside.uses.items c.self.invariant.indexed c.slot.result c.at.result
    (subst (Contains (uses_at c.self.inside.uses.items c.slot.result)) (sym here) (Contains-get_or (uses_at c.self.inside.uses.items c.slot.result) c.args.k 0 place)))
