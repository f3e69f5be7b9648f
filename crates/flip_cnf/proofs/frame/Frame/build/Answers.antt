use Rattle.std.proofs.Common.{◌≡◌, ◌∙◌, ◌≤◌, [], sym, ap, subst, arith}
use Rattle.std.proofs.lemmas.Option.{get_or_from_slice_get}
use Rattle.bound_law.specs.Bounds.{input_at}
use Rattle.formula_law.specs.Formula.{clause_count}
use Rattle.formula_law.specs.RefutationLaws.{whole}
use Rattle.flip_cnf.specs.HeldFrames.{Listed, IsHeldFrame}
use Rattle.flip_cnf.specs.Kinds.{held}
use Rattle.flip_cnf.proofs.Meaning.{few_clauses, model_within}
use Rattle.flip_cnf.proofs.frame.Frame.build.Goals as goal

pub returns-in_ok-write-in-Listed-clause-few : goal.returns-in_ok-write-in-Listed-clause-few
returns-in_ok-write-in-Listed-clause-few c =
    let F = c.in-Listed.lists in
    let points = c.args.inst.now.points in
    let inputs = c.args.inst.now.inputs in
    let is : c.args.self.now ≡ Listed F = sym c.self.view_is ∙ ap held c.in-Listed.is in
    let I = subst (IsHeldFrame points) is c.requires.frame in
    let a : c.input.result.now.edges ≡ input_at inputs c.args.i = sym (get_or_from_slice_get inputs c.args.i c.input.result.now.edges [] c.input.ensures.edges) in
    let b : c.input-in-Listed.result.now.edges ≡ input_at inputs c.args.j = sym (get_or_from_slice_get inputs c.args.j c.input-in-Listed.result.now.edges [] c.input-in-Listed.ensures.edges) in
    let e : c.in_ok-write-in-Listed.field-0 ≡ whole F (input_at inputs c.args.i) (input_at inputs c.args.j) c.args.k = c.in_ok-write-in-Listed.ensures ∙ (λ x. whole F (a x) (b x) c.args.k) in
    let l : clause_count F c.args.k ≤ 400_000 = omega (arith, c.clauses-size.ensures, c.if-size-gt-MOST_CLAUSES.false) in
    few_clauses points inputs c.count.ensures.problem F I.1 c.args.i c.args.j c.args.k c.requires.from c.requires.to 400_000 c.in_ok-write-in-Listed.field-0 e l

pub returns-in_ok-write-in-Listed-clause-within : goal.returns-in_ok-write-in-Listed-clause-within
returns-in_ok-write-in-Listed-clause-within c =
    let F = c.in-Listed.lists in
    let points = c.args.inst.now.points in
    let inputs = c.args.inst.now.inputs in
    let is : c.args.self.now ≡ Listed F = sym c.self.view_is ∙ ap held c.in-Listed.is in
    let I = subst (IsHeldFrame points) is c.requires.frame in
    let a : c.input.result.now.edges ≡ input_at inputs c.args.i = sym (get_or_from_slice_get inputs c.args.i c.input.result.now.edges [] c.input.ensures.edges) in
    let b : c.input-in-Listed.result.now.edges ≡ input_at inputs c.args.j = sym (get_or_from_slice_get inputs c.args.j c.input-in-Listed.result.now.edges [] c.input-in-Listed.ensures.edges) in
    let e : c.in_ok-write-in-Listed.field-0 ≡ whole F (input_at inputs c.args.i) (input_at inputs c.args.j) c.args.k = c.in_ok-write-in-Listed.ensures ∙ (λ x. whole F (a x) (b x) c.args.k) in
    model_within points inputs c.count.ensures.problem F I.1 c.args.i c.args.j c.args.k c.requires.from c.requires.to c.in_ok-write-in-Listed.field-0 e
