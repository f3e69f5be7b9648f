use Rattle.std.proofs.Common.{◌≡◌, ◌∙◌, Some, List, [], ◌∷◌, length, slice_get, sym, ap, subst, arith}
use Rattle.std.specs.Prelude.{IfOk, IfErr}
use Rattle.edge_table.specs.declared.edge.Edge.{Edge}
use Rattle.plan_law.specs.Plans.{followed_all}
use Rattle.book_core.specs.PlanSteps.{IsLowered, IsNoMove}
use Rattle.book_core.proofs.steps.make_move.Goals as goal

lone : (es : List Edge) (e : Edge) → length es ≡ 1 → slice_get es 0 ≡ Some e → e ∷ [] ≡ es
lone [] e l s = absurd (cc)
lone (x ∷ []) e l s = let same : x ≡ e = cc in ap (λ y. y ∷ []) (sym same)
lone (x ∷ y ∷ es) e l s = absurd (omega (arith, l))

pub returns-then-len-eq1-clause-ok : goal.returns-then-len-eq1-clause-ok
returns-then-len-eq1-clause-ok c =
    subst (λ es. IfOk c.make_move_of_one.result (λ saved. IsLowered c.args.plan.now.plan (followed_all c.args.plan.now.problem.points c.args.plan.now.plan es) saved c.make_move_of_one.new.plan.plan))
    (lone c.args.edges.now c.at.result.now (sym c.len.ensures ∙ c.if-len-eq1.true) c.at.ensures) c.make_move_of_one.ensures.ok

pub returns-then-len-eq1-clause-err : goal.returns-then-len-eq1-clause-err
returns-then-len-eq1-clause-err c =
    subst (λ es. IfErr c.make_move_of_one.result (IsNoMove c.args.plan.now.problem.points c.args.plan.now.plan es))
    (lone c.args.edges.now c.at.result.now (sym c.len.ensures ∙ c.if-len-eq1.true) c.at.ensures) c.make_move_of_one.ensures.err
