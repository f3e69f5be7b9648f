use Rattle.std.proofs.Common.{◌≡◌, ◌+◌, ◌≤◌, ℕ, List, length, drop, get_or, sym, ap, ◌∙◌, subst, subst₂, arith}
use Rattle.log_law.specs.Clauses.{IsVariable}
use Rattle.log_law.specs.Units.{IsUnassigned}
use Rattle.log_law.specs.Trails.{literals}
use Rattle.sat_state.specs.Tables.{Table, Held, times, IsTable}
use Rattle.std.proofs.lemmas.List.{take_at}
use Rattle.sat_state.proofs.Tabling.{users_are, slot_in, table_push, table_enough}
use Rattle.sat_state.proofs.table.Table.push.Goals as goal

pub count_down-requires : goal.count_down-requires
count_down-requires c =
    let v = subst (λ (t : Table). IsVariable t.variables c.args.step.literal.var) (sym c.self.view_is) c.requires.in_range in
    let f = subst (λ (t : Table). IsUnassigned (literals t.steps) c.args.step.literal) (sym c.self.view_is) c.requires.unassigned in
    let b = slot_in c.self.inside.steps.variables c.negation.result c.args.step.literal c.slot.result (length c.self.inside.uses.items) v c.negation.ensures c.slot.ensures.place c.self.invariant.wide in
    let same = users_are c.self.inside.clauses.items c.self.inside.uses.items c.negation.result c.args.step.literal c.slot.result c.index-list.result.now c.self.invariant.indexed c.negation.ensures c.slot.ensures.place b c.index-list.ensures in
    λ d. subst (λ (left : List ℕ). times d c.index-list.result.now ≤ get_or left d 0) (sym c.deref_mut.ensures.value)
    (table_enough c.self.inside.steps.variables c.self.inside.clauses.items c.self.inside.steps.steps c.self.inside.uses.items c.self.inside.left.items c.args.step c.index-list.result.now c.self.invariant f same d)

pub invariant_of-self : goal.invariant_of-self
invariant_of-self c =
    let v = subst (λ (t : Table). IsVariable t.variables c.args.step.literal.var) (sym c.self.view_is) c.requires.in_range in
    let f = subst (λ (t : Table). IsUnassigned (literals t.steps) c.args.step.literal) (sym c.self.view_is) c.requires.unassigned in
    let b = slot_in c.self.inside.steps.variables c.negation.result c.args.step.literal c.slot.result (length c.self.inside.uses.items) v c.negation.ensures c.slot.ensures.place c.self.invariant.wide in
    let same = users_are c.self.inside.clauses.items c.self.inside.uses.items c.negation.result c.args.step.literal c.slot.result c.index-list.result.now c.self.invariant.indexed c.negation.ensures c.slot.ensures.place b c.index-list.ensures in
    let long : length c.count_down.new.left ≡ length c.self.inside.left.items = c.count_down.auto.left ∙ ap length c.deref_mut.ensures.value in
    let next = take_at c.count_down.new.left (drop (length c.count_down.new.left) c.self.inside.left.items) c.self.inside.left.len (omega (arith, long, c.self.inside.left.ok.0)) in
    let down = subst (λ (left : List ℕ). (d : ℕ) → get_or left d 0 ≡ get_or c.count_down.new.left d 0 + times d c.index-list.result.now) c.deref_mut.ensures.value c.count_down.ensures in
    subst₂ (λ (h : Held) (left : List ℕ). IsTable h.variables c.self.inside.clauses.items h.steps c.self.inside.uses.items left) (sym c.push.ensures) (sym next)
    (table_push c.self.inside.steps.variables c.self.inside.clauses.items c.self.inside.steps.steps c.self.inside.uses.items c.self.inside.left.items c.count_down.new.left c.args.step c.index-list.result.now c.self.invariant f same long down)
