use Rattle.std.proofs.Common.{rules, arith}
use Rattle.std.proofs.lemmas.Result.{err_from_is_err_and}
use Rattle.verify_core.proofs.RowSteps.{low_bound, why_lower, end_answer}
use Rattle.verify_core.proofs.row.check_row.Goals as goal

pub check_lower-requires : goal.check_lower-requires
check_lower-requires c =
    let low = low_bound c.args.version c.args.inst.now.points c.args.inst.now.inputs c.args.frame.now c.args.before c.args.row.now c.requires c.count.ensures.problem (search rules) c.in_ok-check_evidence.ensures.ok in
    omega (arith, low)

pub returns-in_err-check_lower-clause-err : goal.returns-in_err-check_lower-clause-err
returns-in_err-check_lower-clause-err c =
    let p = err_from_is_err_and c.from_residual-in_err-check_lower.result c.from_residual-in_err-check_lower.ensures.1 in
    rw (p.1, p.2) (why_lower c.args.version c.args.inst.now.points c.args.inst.now.inputs c.args.frame.now c.args.before c.args.row.now (search rules) c.in_ok-check_evidence.ensures.ok c.in_err-check_lower.field-0.0 c.in_err-check_lower.ensures.err)

pub check_end-requires-clause-low : goal.check_end-requires-clause-low
check_end-requires-clause-low c =
    let low = low_bound c.args.version c.args.inst.now.points c.args.inst.now.inputs c.args.frame.now c.args.before c.args.row.now c.requires c.count.ensures.problem (search rules) c.in_ok-check_evidence.ensures.ok in
    let same = c.in_ok-check_lower.ensures.ok in
    omega (arith, low, same)

pub returns-clause-err : goal.returns-clause-err
returns-clause-err c =
    end_answer c.args.version c.args.inst.now.points c.args.inst.now.inputs c.args.frame.now c.args.before c.args.row.now (search rules) c.in_ok-check_evidence.ensures.ok c.in_ok-check_lower.ensures.ok c.check_end.result c.check_end.ensures.err
