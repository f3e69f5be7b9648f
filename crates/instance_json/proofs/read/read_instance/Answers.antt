use Rattle.std.proofs.lemmas.Result.{IfOk-weaker, IfErr-weaker}
use Rattle.serde_json.specs.View.{view}
use Rattle.instance_json.proofs.Firsts.{cause_of_text, form_of_text}
use Rattle.instance_json.proofs.Raws.{raw_no_fault, both_ok}
use Rattle.instance_json.proofs.read.read_instance.Goals as goal

pub returns-in-Ok-clause-form : goal.returns-in-Ok-clause-form
returns-in-Ok-clause-form c =
    IfOk-weaker c.instance_in.result _ _ (λ raw r. form_of_text c.args.bytes.now (view c.in-Ok.value) c.in-Ok.ensures.ok (raw_no_fault (view c.in-Ok.value) raw r.0 r.1))
    (both_ok c.instance_in.result _ _ c.instance_in.ensures.ok c.instance_in.ensures.counted)

pub returns-in-Ok-clause-fault : goal.returns-in-Ok-clause-fault
returns-in-Ok-clause-fault c =
    IfErr-weaker c.instance_in.result _ _ (λ e r. cause_of_text c.args.bytes.now (view c.in-Ok.value) c.in-Ok.ensures.ok e r) c.instance_in.ensures.fault
