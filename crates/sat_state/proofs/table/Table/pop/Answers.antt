use Rattle.std.proofs.Common.{◌≡◌, ◌+◌, ◌<◌, ℕ, List, length, drop, get_or, sym, ap, ◌∙◌, subst, arith}
use Rattle.std.proofs.lemmas.List.{take_at}
use Rattle.sat_state.specs.Tables.{Held, times, IsTable}
use Rattle.sat_state.proofs.Tabling.{users_are, slot_in, table_pop, table_counters_small, table_user_within}
use Rattle.sat_state.proofs.table.Table.pop.Goals as goal

pub index-list-requires : goal.index-list-requires
index-list-requires c =
    let n = ap (λ (h : Held). h.variables) c.pop-step.ensures.last in
    let w = c.self.invariant.wide in
    let b = slot_in c.pop-step.new.self.variables c.negation.result c.pop-step.result.literal c.slot.result (length c.self.inside.uses.items) c.pop-step.ensures.in_range c.negation.ensures c.slot.ensures.place (omega (arith, n, w)) in
    omega (arith, b, c.self.inside.uses.ok.0)

pub count_up-requires-clause-within : goal.count_up-requires-clause-within
count_up-requires-clause-within c =
    let n = ap (λ (h : Held). h.variables) c.pop-step.ensures.last in
    let w = c.self.invariant.wide in
    let b = slot_in c.pop-step.new.self.variables c.negation.result c.pop-step.result.literal c.slot.result (length c.self.inside.uses.items) c.pop-step.ensures.in_range c.negation.ensures c.slot.ensures.place (omega (arith, n, w)) in
    λ d h. subst (λ (left : List ℕ). d < length left) (sym c.deref_mut.ensures.value)
    (table_user_within c.self.inside.steps.variables c.self.inside.clauses.items c.self.inside.steps.steps c.self.inside.uses.items c.self.inside.left.items c.negation.result c.pop-step.result.literal c.slot.result c.index-list.result.now c.self.invariant c.negation.ensures c.slot.ensures.place b c.index-list.ensures d h)

pub count_up-requires-clause-small : goal.count_up-requires-clause-small
count_up-requires-clause-small c =
    let n = ap (λ (h : Held). h.variables) c.pop-step.ensures.last in
    let w = c.self.invariant.wide in
    let b = slot_in c.pop-step.new.self.variables c.negation.result c.pop-step.result.literal c.slot.result (length c.self.inside.uses.items) c.pop-step.ensures.in_range c.negation.ensures c.slot.ensures.place (omega (arith, n, w)) in
    let same = users_are c.self.inside.clauses.items c.self.inside.uses.items c.negation.result c.pop-step.result.literal c.slot.result c.index-list.result.now c.self.invariant.indexed c.negation.ensures c.slot.ensures.place b c.index-list.ensures in
    let table = subst (λ (h : Held). IsTable h.variables c.self.inside.clauses.items h.steps c.self.inside.uses.items c.self.inside.left.items) c.pop-step.ensures.last c.self.invariant in
    λ d. let s = table_counters_small c.pop-step.new.self.variables c.self.inside.clauses.items c.pop-step.new.self.steps c.self.inside.uses.items c.self.inside.left.items c.pop-step.result c.index-list.result.now table c.pop-step.ensures.unassigned same d in
    let e = ap (λ (left : List ℕ). get_or left d 0) c.deref_mut.ensures.value in
    omega (arith, s, e)

pub invariant_of-self : goal.invariant_of-self
invariant_of-self c =
    let n = ap (λ (h : Held). h.variables) c.pop-step.ensures.last in
    let w = c.self.invariant.wide in
    let b = slot_in c.pop-step.new.self.variables c.negation.result c.pop-step.result.literal c.slot.result (length c.self.inside.uses.items) c.pop-step.ensures.in_range c.negation.ensures c.slot.ensures.place (omega (arith, n, w)) in
    let same = users_are c.self.inside.clauses.items c.self.inside.uses.items c.negation.result c.pop-step.result.literal c.slot.result c.index-list.result.now c.self.invariant.indexed c.negation.ensures c.slot.ensures.place b c.index-list.ensures in
    let table = subst (λ (h : Held). IsTable h.variables c.self.inside.clauses.items h.steps c.self.inside.uses.items c.self.inside.left.items) c.pop-step.ensures.last c.self.invariant in
    let long : length c.count_up.new.left ≡ length c.self.inside.left.items = c.count_up.auto.left ∙ ap length c.deref_mut.ensures.value in
    let next = take_at c.count_up.new.left (drop (length c.count_up.new.left) c.self.inside.left.items) c.self.inside.left.len (omega (arith, long, c.self.inside.left.ok.0)) in
    let up = subst (λ (left : List ℕ). (d : ℕ) → get_or c.count_up.new.left d 0 ≡ get_or left d 0 + times d c.index-list.result.now) c.deref_mut.ensures.value c.count_up.ensures in
    subst (λ (left : List ℕ). IsTable c.pop-step.new.self.variables c.self.inside.clauses.items c.pop-step.new.self.steps c.self.inside.uses.items left) (sym next)
    (table_pop c.pop-step.new.self.variables c.self.inside.clauses.items c.pop-step.new.self.steps c.self.inside.uses.items c.self.inside.left.items c.count_up.new.left c.pop-step.result c.index-list.result.now table c.pop-step.ensures.unassigned same long up)
