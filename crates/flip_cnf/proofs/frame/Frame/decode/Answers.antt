use Rattle.std.proofs.Common.{◌≡◌, ◌∙◌, IfOk, sym, ap, subst}
use Rattle.std.proofs.lemmas.Result.{IfOk-weaker}
use Rattle.bound_law.specs.Bounds.{input_at}
use Rattle.log_law.specs.Clauses.{listed}
use Rattle.flip_cnf.specs.HeldFrames.{Listed, IsHeldFrame, Satisfies, AreTold, AreRounds}
use Rattle.flip_cnf.specs.Kinds.{held}
use Rattle.flip_cnf.proofs.Meaning.{told_rounds}
use Rattle.flip_cnf.proofs.frame.Frame.decode.Goals as goal

pub returns : goal.returns
returns c =
    let F = c.in-Listed.lists in
    let points = c.args.inst.now.points in
    let A = input_at c.args.inst.now.inputs c.args.i in
    let B = input_at c.args.inst.now.inputs c.args.j in
    let truth = listed c.args.truth.now in
    let is : c.args.self.now ≡ Listed F = sym c.self.view_is ∙ ap held c.in-Listed.is in
    let I = subst (IsHeldFrame points) is c.requires.frame in
    let m = subst (λ h. Satisfies h A B c.args.k truth) is c.requires.model in
    let R = told_rounds points c.args.inst.now.inputs c.count.ensures.problem F I.1 c.args.i c.args.j c.args.k c.requires.from c.requires.to truth m in
    record {
      told = subst (λ h. IfOk c.read.result (AreTold h truth c.args.k)) (sym is) c.read.ensures;
      rounds = IfOk-weaker c.read.result _ _ (λ rounds e. subst (AreRounds points A B c.args.k) (sym e) R) c.read.ensures;
    }
