use Rattle.std.proofs.Common.{ap, subst, sym, ◌∙◌}
use Rattle.std.proofs.lemmas.Result.{err_from_is_err_and}
use Rattle.std.specs.List.{AllZip}
use Rattle.tri_check.specs.Problems.{Problem, all_edges}
use Rattle.tri_check.specs.Faults.{IsCompletedInput}
use Rattle.tri_check.specs.Accepted.{IsAccepted, IsRefusal}
use Rattle.tri_check.specs.Stages.{AreSound, AreWeighed, IsWeightRefusal}
use Rattle.tri_check.proofs.Made.{inputs_of, as_many, shaped, completed}
use Rattle.tri_check.proofs.Weighed.{few_weights, accepted, weight_refusal}
use Rattle.tri_check.proofs.instance.Instance.check.Goals as goal

pub invariant_of-new : goal.invariant_of-new
invariant_of-new c =
    let sound = subst (λ ps. AreSound ps c.args.raw.inputs) (c.as_slice-2.ensures ∙ sym c.in_ok-points.ensures.ok) c.in_ok-check_points.ensures.ok in
    inputs_of c.in_ok-points.points.value c.args.raw.inputs c.in_ok-inputs.inputs.items sound c.in_ok-inputs.ensures.ok c.in_ok-weights.weights
    (few_weights c.args.raw.inputs (all_edges c.in_ok-inputs.inputs.items) c.args.raw.weights c.in_ok-weights.weights c.requires
    (as_many c.in_ok-points.points.value c.args.raw.inputs c.in_ok-inputs.inputs.items sound c.in_ok-inputs.ensures.ok)
    (subst (λ ws. AreWeighed ws c.in_ok-weights.weights) c.as_slice-3.ensures c.in_ok-weights.ensures.ok))

pub returns-clause-ok : goal.returns-clause-ok
returns-clause-ok c =
    let h = c.in_ok-new.ensures.ok in
    let points = c.in_ok-points.points.value in
    let sound = subst (λ ps. AreSound ps c.args.raw.inputs) (c.as_slice-2.ensures ∙ sym c.in_ok-points.ensures.ok) c.in_ok-check_points.ensures.ok in
    subst (λ ps. IsAccepted c.args.raw.uid ps c.args.raw.inputs c.args.raw.weights c.in_ok-new.field-0.value) c.in_ok-points.ensures.ok
    (accepted points c.args.raw.inputs c.args.raw.weights c.args.raw.uid c.in_ok-weights.weights c.in_ok-new.field-0.value
    (shaped points c.args.raw.inputs c.in_ok-inputs.inputs.items sound c.in_ok-inputs.ensures.ok)
    (subst (AllZip (IsCompletedInput points) c.args.raw.inputs) (sym (ap (λ (p : Problem). p.inputs) h)) (completed points c.args.raw.inputs c.in_ok-inputs.inputs.items sound c.in_ok-inputs.ensures.ok))
    (subst (λ ws. AreWeighed ws c.in_ok-weights.weights) c.as_slice-3.ensures c.in_ok-weights.ensures.ok)
    (ap (λ (p : Problem). p.uid) h) (ap (λ (p : Problem). p.points) h) (ap (λ (p : Problem). p.weights) h))

pub returns-in_err-weights-clause-bad : goal.returns-in_err-weights-clause-bad
returns-in_err-weights-clause-bad c =
    let p = err_from_is_err_and c.from_residual-in_err-weights.result c.from_residual-in_err-weights.ensures.1 in
    let points = c.in_ok-points.points.value in
    let sound = subst (λ ps. AreSound ps c.args.raw.inputs) (c.as_slice-2.ensures ∙ sym c.in_ok-points.ensures.ok) c.in_ok-check_points.ensures.ok in
    let none = shaped points c.args.raw.inputs c.in_ok-inputs.inputs.items sound c.in_ok-inputs.ensures.ok in
    let h = subst (λ ws. IsWeightRefusal ws c.in_err-weights.field-0.0) c.as_slice-3.ensures c.in_err-weights.ensures.err in
    rw (p.1, p.2) (subst (λ ps. IsRefusal ps c.args.raw.inputs c.args.raw.weights c.in_err-weights.field-0.0) c.in_ok-points.ensures.ok (weight_refusal points c.args.raw.inputs c.args.raw.weights none c.in_err-weights.field-0.0 h))
