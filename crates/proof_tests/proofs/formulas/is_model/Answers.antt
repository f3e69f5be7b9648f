use Rattle.std.proofs.Common.{get_or, sym, subst}
use Rattle.std.proofs.lemmas.Option.{get_or_from_slice_get}
use Rattle.log_law.specs.Clauses.{Clause, IsSatisfied, listed}
use Rattle.tri_check.proofs.Searches.{all_more}
use Rattle.proof_tests.proofs.formulas.is_model.Goals as goal

pub loop-n-preserved : goal.loop-n-preserved
loop-n-preserved c = λ k d h.
    all_more (λ j. (e : Clause) → IsSatisfied (listed c.args.truth.now) (get_or c.args.cnf.now.clauses j e)) c.loop-n.n (λ j l e. c.loop-n.invariant j e l)
    (λ e. subst (IsSatisfied (listed c.args.truth.now)) (sym (get_or_from_slice_get c.args.cnf.now.clauses c.loop-n.n c.clause.result.now e c.clause.ensures)) (c.holds.ensures c.if-not-holds.false)) k h d
