use Rattle.std.proofs.Common.{◌≡◌, ◌∙◌, [], sym, ap, subst}
use Rattle.std.proofs.lemmas.Option.{get_or_from_slice_get}
use Rattle.bound_law.specs.Bounds.{input_at}
use Rattle.formula_law.specs.PrunedFormula.{live_between}
use Rattle.formula_law.specs.RefutationLaws.{pruned}
use Rattle.pruned_cnf.specs.Queries.{Query, formula_in}
use Rattle.flip_cnf.specs.HeldFrames.{Listed, IsHeldFrame}
use Rattle.flip_cnf.specs.Kinds.{held}
use Rattle.flip_cnf.proofs.Meaning.{pruned_within}
use Rattle.flip_cnf.proofs.frame.Frame.build2.Goals as goal

pub returns-in_ok-build-in-Listed-clause-within : goal.returns-in_ok-build-in-Listed-clause-within
returns-in_ok-build-in-Listed-clause-within c =
    let F = c.in-Listed.lists in
    let points = c.args.inst.now.points in
    let inputs = c.args.inst.now.inputs in
    let A = input_at inputs c.args.i in
    let B = input_at inputs c.args.j in
    let is : c.args.self.now ≡ Listed F = sym c.self.view_is ∙ ap held c.in-Listed.is in
    let I = subst (IsHeldFrame points) is c.requires.frame in
    let p : c.input.result.now.points ≡ points = c.input.ensures.points in
    let a : c.input.result.now.edges ≡ A = sym (get_or_from_slice_get inputs c.args.i c.input.result.now.edges [] c.input.ensures.edges) in
    let b : c.input-in-Listed.result.now.edges ≡ B = sym (get_or_from_slice_get inputs c.args.j c.input-in-Listed.result.now.edges [] c.input-in-Listed.ensures.edges) in
    let q : c.in_ok-query-in-Listed.query ≡ record { points = points; frame = F; from = A; to = B; rounds = c.args.k } = c.in_ok-query-in-Listed.ensures ∙ (λ x. record { points = p x; frame = F; from = a x; to = b x; rounds = c.args.k }) in
    let e : c.in_ok-build-in-Listed.field-0 ≡ pruned F (live_between points A B c.args.k) A B c.args.k = c.in_ok-build-in-Listed.ensures ∙ ap formula_in q in
    pruned_within points inputs c.count.ensures.problem F I.1 c.args.i c.args.j c.args.k c.requires.from c.requires.to c.in_ok-build-in-Listed.field-0 e
