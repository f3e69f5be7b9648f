use Rattle.std.proofs.Common.{◌∙◌, [], sym, ap}
use Rattle.std.proofs.lemmas.Option.{get_or_from_slice_get}
use Rattle.tri_check.specs.Layouts.{Layout}
use Rattle.tri_check.specs.Problems.{Problem}
use Rattle.bound_law.specs.Bounds.{input_at}
use Rattle.plan_moves.proofs.Descents.{answered, run_at}
use Rattle.plan_moves.proofs.descending.descend.Goals as goal

pub returns : goal.returns
returns c =
    let end = ap (λ (l : Layout). l.edges) c.in_ok-to_triang.ensures in
    c.judge.ensures
    ∙ answered c.args.plan.now.problem.points c.args.plan.now.problem.inputs c.args.plan.now.plan c.args.t c.cost-held.result c.in_ok-rounds.rounds c.run_down.new.mesh.edges c.same-reached.result
    (run_at (ap (λ (l : Layout). l.points) c.in_ok-mesh.ensures ∙ (c.input.ensures.points ∙ ap (λ (p : Problem). p.points) (c.deref.ensures ∙ c.inst.ensures))) (ap (λ (l : Layout). l.edges) c.in_ok-weights.ensures ∙ c.in_ok-centre.ensures.edges)
    (ap (λ (l : Layout). l.edges) c.in_ok-mesh.ensures
    ∙ sym (ap (λ (p : Problem). input_at p.inputs c.args.t) (sym (c.deref.ensures ∙ c.inst.ensures)) ∙ get_or_from_slice_get c.deref.result.now.inputs c.args.t c.input.result.now.edges [] c.input.ensures.edges))
    c.in_ok-rounds.ensures.ok)
    c.cost-held.ensures
    (λ t. sym end ∙ (c.same-reached.ensures.0 t ∙ c.in_ok-centre.ensures.edges), λ e. c.same-reached.ensures.1 (end ∙ (e ∙ sym c.in_ok-centre.ensures.edges)))
