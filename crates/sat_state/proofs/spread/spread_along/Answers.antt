use Rattle.std.proofs.Common.{◌<◌, ◌∙◌, ℕ, List, length, Contains, sym, ap, subst, arith}
use Rattle.log_law.specs.declared.Step.{Step}
use Rattle.log_law.specs.Clauses.{negated}
use Rattle.log_law.specs.Units.{IsStill}
use Rattle.log_law.specs.Trails.{step_at, literals}
use Rattle.sat_state.specs.Tables.{clause_no, IsUntouched, IsSettled}
use Rattle.sat_state.proofs.Settling.{goes_far, goes_long, same_far, along_more, settled_goes, settled_rest, clauses_same}
use Rattle.sat_state.proofs.spread.spread_along.Goals as goal

pub loop-looked-preserved : goal.loop-looked-preserved
loop-looked-preserved c =
    let below : c.loop-looked.looked < length c.loop-looked.table.steps = omega (arith, c.loop-looked-test.true, c.len.ensures.steps, ap length c.steps.ensures.steps) in
    let longer = goes_long c.args.level c.loop-looked.table.steps c.settle_users-falsified.new.table.steps c.settle_users-falsified.ensures.goes_on in
    let step = c.at-step.ensures ∙ ap (λ (steps : List Step). step_at steps c.loop-looked.looked) c.steps-in-loop-looked.ensures.steps in
    let next = c.settle_users-falsified.new.table in
    record {
      same = same_far c.args.table.now c.loop-looked.table next c.loop-looked.invariant.same c.settle_users-falsified.ensures.same;
      goes_on = goes_far c.args.level c.args.table.now.steps c.loop-looked.table.steps next.steps c.loop-looked.invariant.goes_on c.settle_users-falsified.ensures.goes_on;
      search = c.settle_users-falsified.ensures.search;
      within = omega (arith, below, longer);
      settled = along_more c.loop-looked.table next c.args.level c.loop-looked.looked c.settle_users-falsified.ensures.same c.loop-looked.invariant.search.clauses_fit below c.settle_users-falsified.ensures.goes_on c.loop-looked.invariant.settled
          (subst
          (λ (s : Step). (d : ℕ) → Contains (clause_no next.clauses d) (negated s.literal) → IsUntouched (length c.loop-looked.table.steps) next.steps (clause_no next.clauses d) → IsStill (literals next.steps) (clause_no next.clauses d))
          step (c.settle_users-falsified.ensures.still (sym c.if-is_some.ensures)));
    }

pub returns-then-is_some-clause-goes_on : goal.returns-then-is_some-clause-goes_on
returns-then-is_some-clause-goes_on c =
    goes_far c.args.level c.args.table.now.steps c.loop-looked.table.steps c.settle_users-falsified.new.table.steps c.loop-looked.invariant.goes_on c.settle_users-falsified.ensures.goes_on

pub returns-then-is_some-clause-settled : goal.returns-then-is_some-clause-settled
returns-then-is_some-clause-settled c =
    let same = ap length (clauses_same c.loop-looked.table c.settle_users-falsified.new.table c.settle_users-falsified.ensures.same) in
    subst (λ n. IsSettled n c.loop-looked.looked c.settle_users-falsified.new.table) (sym same)
    (settled_goes c.loop-looked.table c.settle_users-falsified.new.table c.args.level (length c.loop-looked.table.clauses) c.loop-looked.looked c.settle_users-falsified.ensures.same c.loop-looked.invariant.search.clauses_fit c.loop-looked.invariant.within c.settle_users-falsified.ensures.goes_on c.loop-looked.invariant.settled)

pub returns-clause-rest : goal.returns-clause-rest
returns-clause-rest c = λ none. settled_rest c.loop-looked.table c.loop-looked.looked (omega (arith, c.loop-looked-test.false, c.len.ensures.steps, ap length c.steps.ensures.steps)) c.loop-looked.invariant.settled
