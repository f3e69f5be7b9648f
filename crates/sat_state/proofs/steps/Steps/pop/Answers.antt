use Rattle.std.proofs.Common.{List, subst, arith}
use Rattle.log_law.specs.declared.Step.{Step}
use Rattle.sat_state.specs.Tables.{IsHeld}
use Rattle.sat_state.proofs.Stepping.{held_pop, last_unassigned}
use Rattle.sat_state.proofs.steps.Steps.pop.Goals as goal

pub invariant_of-self : goal.invariant_of-self
invariant_of-self c = (
  held_pop c.self.inside.vars c.pop.new.self.items c.self.inside.places.items c.in-Some.step
      (subst (λ (steps : List Step). IsHeld c.self.inside.vars steps c.self.inside.places.items) c.in-Some.ensures.items c.self.invariant.0),
  omega (arith, c.self.invariant.1, c.pop.ensures.capacity),
)

pub returns-clause-unassigned : goal.returns-clause-unassigned
returns-clause-unassigned c =
    let held = subst (λ (steps : List Step). IsHeld c.self.inside.vars steps c.self.inside.places.items) c.in-Some.ensures.items c.self.invariant.0 in
    last_unassigned c.pop.new.self.items c.in-Some.step held.apart
