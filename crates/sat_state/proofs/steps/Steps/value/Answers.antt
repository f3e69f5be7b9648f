use Rattle.std.proofs.Common.{sym, ap, ◌∙◌}
use Rattle.std.specs.Prelude.{option_map}
use Rattle.log_law.specs.declared.Step.{Step}
use Rattle.log_law.proofs.Found.{values_are_of_steps}
use Rattle.sat_state.proofs.steps.Steps.value.Goals as goal

pub returns-in-Some : goal.returns-in-Some
returns-in-Some c = ap (option_map (λ (s : Step). s.literal.on)) c.in-Some.ensures ∙ sym (values_are_of_steps c.args.self.now.steps c.args.var)

pub returns-in-None : goal.returns-in-None
returns-in-None c = ap (option_map (λ (s : Step). s.literal.on)) c.in-None.ensures ∙ sym (values_are_of_steps c.args.self.now.steps c.args.var)
