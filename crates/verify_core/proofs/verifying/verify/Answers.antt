use Rattle.std.proofs.Common.{rules, ◌≡◌, ◌≤◌, refl, subst, sym, sum}
use Rattle.assignment_law.specs.Assignments.{IsAssignment}
use Rattle.tri_theory.specs.Rounds.{total}
use Rattle.verify_core.specs.Faults.{bound_by, IsFirstWrongPlace}
use Rattle.std.proofs.lemmas.Result.{err_from_is_err_and}
use Rattle.verify_core.proofs.Bounds.{bound_is_least}
use Rattle.verify_core.proofs.Clear.{on_name, on_plan, on_total, on_rows, on_place, on_bound}
use Rattle.verify_core.proofs.verifying.verify.Goals as goal

pub returns-clause-least : goal.returns-clause-least
returns-clause-least c =
    let same : c.args.c.now.bound ≡ bound_by c.args.inst.now.weights c.args.c.now.rows c.args.c.now.perm = search rules in
    let assigned : IsAssignment (sum c.args.inst.now.weights) c.args.c.now.perm = search rules in
    λ centre schedules plan. subst (λ n. n ≤ total c.args.inst.now.weights schedules) (sym same)
    (bound_is_least c.args.c.now.version c.args.inst.now.points c.args.inst.now.inputs c.in_ok-frame.frame c.count.ensures.problem c.in_ok-frame.ensures c.args.c.now.rows c.in_ok-check_rows.ensures.ok c.args.inst.now.weights c.count.ensures.weights.weighed c.args.c.now.perm assigned centre schedules plan)

pub returns-in-Err-clause-no : goal.returns-in-Err-clause-no
returns-in-Err-clause-no c = on_name c.args.inst.now c.in_ok-frame.frame c.count.ensures.problem c.in_ok-frame.ensures c.args.s.now c.args.c.now c.in-Err.fault c.in-Err.ensures.err

pub returns-in_err-is-clause-no : goal.returns-in_err-is-clause-no
returns-in_err-is-clause-no c =
    let p = err_from_is_err_and c.from_residual-in_err-is.result c.from_residual-in_err-is.ensures.1 in
    rw (p.1, p.2) (on_plan c.args.inst.now c.in_ok-frame.frame c.count.ensures.problem c.in_ok-frame.ensures c.args.s.now c.args.c.now c.in-Ok.ensures.ok c.in_err-is.field-0.0 c.in_err-is.ensures.err)

pub returns-then-c-is-clause-no : goal.returns-then-c-is-clause-no
returns-then-c-is-clause-no c = on_total c.args.inst.now c.in_ok-frame.frame c.count.ensures.problem c.in_ok-frame.ensures c.args.s.now c.args.c.now c.in-Ok.ensures.ok c.in_ok-is.field-0.centre.edges c.in_ok-is.ensures.plan c.in_ok-is.ensures.distinct c.args.c.now.total c.in_ok-is.field-0.total (refl, c.in_ok-is.ensures.total, search rules)

pub returns-in_err-check_rows-clause-no : goal.returns-in_err-check_rows-clause-no
returns-in_err-check_rows-clause-no c =
    let p = err_from_is_err_and c.from_residual-in_err-check_rows.result c.from_residual-in_err-check_rows.ensures.1 in
    rw (p.1, p.2) (on_rows c.args.inst.now c.in_ok-frame.frame c.count.ensures.problem c.in_ok-frame.ensures c.args.s.now c.args.c.now c.in-Ok.ensures.ok c.in_ok-is.field-0.centre.edges c.in_ok-is.ensures.plan c.in_ok-is.ensures.distinct (search rules) c.in_err-check_rows.field-0.0 c.in_err-check_rows.ensures.err)

pub returns-in-Some-clause-no : goal.returns-in-Some-clause-no
returns-in-Some-clause-no c = on_place c.args.inst.now c.in_ok-frame.frame c.count.ensures.problem c.in_ok-frame.ensures c.args.s.now c.args.c.now c.in-Ok.ensures.ok c.in_ok-is.field-0.centre.edges c.in_ok-is.ensures.plan c.in_ok-is.ensures.distinct (search rules) c.in_ok-check_rows.ensures.ok c.in-Some.p (subst (λ n. IsFirstWrongPlace n c.args.c.now.perm c.in-Some.p) c.copies.ensures.copies c.in-Some.ensures.some)

pub returns-then-c-is-2-clause-no : goal.returns-then-c-is-2-clause-no
returns-then-c-is-2-clause-no c = on_bound c.args.inst.now c.in_ok-frame.frame c.count.ensures.problem c.in_ok-frame.ensures c.args.s.now c.args.c.now c.in-Ok.ensures.ok c.in_ok-is.field-0.centre.edges c.in_ok-is.ensures.plan c.in_ok-is.ensures.distinct (search rules) c.in_ok-check_rows.ensures.ok (search rules) c.args.c.now.bound c.bound_of-is.result (refl, c.bound_of-is.ensures, search rules)
