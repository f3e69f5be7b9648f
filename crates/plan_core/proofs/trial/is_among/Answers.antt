use Rattle.std.proofs.Common.{◌∙◌, sym, subst}
use Rattle.std.specs.Prelude.{◌↔◌, IsTrue, Contains}
use Rattle.plan_core.proofs.Trials.{among}
use Rattle.plan_core.proofs.trial.is_among.Goals as goal

pub returns : goal.returns
returns c = subst (λ es. IsTrue c.contains.result ↔ Contains es c.args.e) c.as_slice.ensures
    (λ t. (among c.as_slice.result.now c.args.e).0 (sym c.contains.ensures.value ∙ t), λ h. c.contains.ensures.value ∙ (among c.as_slice.result.now c.args.e).1 h)
