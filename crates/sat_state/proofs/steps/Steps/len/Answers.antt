use Rattle.std.proofs.Common.{◌≤◌, length, subst, ap, arith}
use Rattle.sat_state.specs.Tables.{Held}
use Rattle.sat_state.proofs.Stepping.{steps_fit}
use Rattle.sat_state.proofs.steps.Steps.len.Goals as goal

pub returns-clause-within : goal.returns-clause-within
returns-clause-within c =
    let held = c.self.invariant.0 in
    let fit = subst (λ (h : Held). length h.steps ≤ h.variables) c.self.view_is (steps_fit c.self.inside.vars c.self.inside.steps.items held.apart held.in_range) in
    omega (arith, fit, ap (λ (h : Held). length h.steps) c.self.view_is, c.self.inside.steps.ok.0)
