use Rattle.std.proofs.lemmas.Result.{IfOk-weaker, IfErr-weaker}
use Rattle.serde_json.specs.View.{view}
use Rattle.solution_json.proofs.Firsts.{cause_of_text, form_of_text}
use Rattle.solution_json.proofs.Whole.{no_form_fault}
use Rattle.solution_json.proofs.read.read_solution.Goals as goal

pub returns-in-Ok-clause-form : goal.returns-in-Ok-clause-form
returns-in-Ok-clause-form c =
    IfOk-weaker c.solution_in.result _ _ (λ s r. form_of_text c.args.bytes.now (view c.in-Ok.value) c.in-Ok.ensures.ok (no_form_fault (view c.in-Ok.value) s r)) c.solution_in.ensures.ok

pub returns-in-Ok-clause-fault : goal.returns-in-Ok-clause-fault
returns-in-Ok-clause-fault c =
    IfErr-weaker c.solution_in.result _ _ (λ e r. cause_of_text c.args.bytes.now (view c.in-Ok.value) c.in-Ok.ensures.ok e r) c.solution_in.ensures.fault
