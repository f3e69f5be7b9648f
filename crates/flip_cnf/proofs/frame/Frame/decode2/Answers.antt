use Rattle.std.proofs.Common.{◌≡◌, ◌∙◌, [], sym, ap, subst}
use Rattle.std.proofs.lemmas.Option.{get_or_from_slice_get}
use Rattle.std.proofs.lemmas.Result.{IfOk-weaker}
use Rattle.bound_law.specs.Bounds.{input_at}
use Rattle.log_law.specs.Clauses.{listed}
use Rattle.pruned_cnf.specs.Queries.{Query, rounds_in}
use Rattle.flip_cnf.specs.HeldFrames.{Listed, IsHeldFrame, SatisfiesPruned, AreRounds}
use Rattle.flip_cnf.specs.Kinds.{held}
use Rattle.flip_cnf.proofs.Meaning.{pruned_rounds}
use Rattle.flip_cnf.proofs.frame.Frame.decode2.Goals as goal

pub returns-clause-rounds : goal.returns-clause-rounds
returns-clause-rounds c =
    let F = c.in-Listed.lists in
    let points = c.args.inst.now.points in
    let inputs = c.args.inst.now.inputs in
    let A = input_at inputs c.args.i in
    let B = input_at inputs c.args.j in
    let truth = listed c.args.truth.now in
    let is : c.args.self.now ≡ Listed F = sym c.self.view_is ∙ ap held c.in-Listed.is in
    let I = subst (IsHeldFrame points) is c.requires.frame in
    let m = subst (λ h. SatisfiesPruned points A B c.args.k h truth) is c.requires.model in
    let p : c.input.result.now.points ≡ points = c.input.ensures.points in
    let a : c.input.result.now.edges ≡ A = sym (get_or_from_slice_get inputs c.args.i c.input.result.now.edges [] c.input.ensures.edges) in
    let b : c.input-in-Listed.result.now.edges ≡ B = sym (get_or_from_slice_get inputs c.args.j c.input-in-Listed.result.now.edges [] c.input-in-Listed.ensures.edges) in
    let q : c.in_ok-query-in-Listed.query ≡ record { points = points; frame = F; from = A; to = B; rounds = c.args.k } = c.in_ok-query-in-Listed.ensures ∙ (λ x. record { points = p x; frame = F; from = a x; to = b x; rounds = c.args.k }) in
    let R = pruned_rounds points inputs c.count.ensures.problem F I.1 c.args.i c.args.j c.args.k c.requires.from c.requires.to truth m in
    IfOk-weaker c.decode.result _ _ (λ rounds e. subst (AreRounds points A B c.args.k) (sym (e ∙ ap (λ (s : Query). rounds_in s truth) q)) R) c.decode.ensures
