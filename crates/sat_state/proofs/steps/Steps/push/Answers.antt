use Rattle.std.proofs.Common.{◌≡◌, Some, List, length, set, sym, subst, subst₂, arith}
use Rattle.log_law.specs.declared.Step.{Step}
use Rattle.log_law.specs.Clauses.{IsVariable}
use Rattle.log_law.specs.Units.{IsUnassigned}
use Rattle.log_law.specs.Trails.{literals}
use Rattle.sat_state.specs.Tables.{Held, IsHeld}
use Rattle.sat_state.proofs.Stepping.{held_push, room_left, steps_fit}
use Rattle.sat_state.proofs.steps.Steps.push.Goals as goal

pub overflow_cast-len : goal.overflow_cast-len
overflow_cast-len c =
    let held = c.self.invariant.0 in
    omega (arith, steps_fit c.self.inside.vars c.self.inside.steps.items held.apart held.in_range, held.small, c.len.ensures, c.self.inside.steps.ok.0)

pub push_reserved-requires : goal.push_reserved-requires
push_reserved-requires c =
    let v = subst (λ (h : Held). IsVariable h.variables c.args.step.literal.var) (sym c.self.view_is) c.requires.in_range in
    let f = subst (λ (h : Held). IsUnassigned (literals h.steps) c.args.step.literal) (sym c.self.view_is) c.requires.unassigned in
    let held = c.self.invariant.0 in
    let room = room_left c.self.inside.vars c.self.inside.steps.items c.args.step held.apart held.in_range v f in
    omega (arith, room, c.self.invariant.1, c.self.inside.steps.ok.0)

pub invariant_of-self : goal.invariant_of-self
invariant_of-self c =
    let v = subst (λ (h : Held). IsVariable h.variables c.args.step.literal.var) (sym c.self.view_is) c.requires.in_range in
    let f = subst (λ (h : Held). IsUnassigned (literals h.steps) c.args.step.literal) (sym c.self.view_is) c.requires.unassigned in
    let last : length c.self.inside.steps.items ≡ c.len.result = omega (arith, c.len.ensures, c.self.inside.steps.ok.0) in (
      subst₂ (λ (steps : List Step) place. IsHeld c.self.inside.vars steps (set c.self.inside.places.items c.args.step.literal.var (Some place))) (sym c.push_reserved.ensures.items) last
          (held_push c.self.inside.vars c.self.inside.steps.items c.self.inside.places.items c.args.step c.self.invariant.0 v f),
      omega (arith, c.self.invariant.1, c.push_reserved.ensures.capacity),
    )
