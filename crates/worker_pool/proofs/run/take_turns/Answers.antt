use Rattle.std.proofs.Common.{◌∙◌, ◌<◌, List, [], length, take, refl, sym, subst, arith}
use Rattle.std.proofs.lemmas.List.{take_more_set, take_all, length-set, length-take-le}
use Rattle.flip_cnf.specs.HeldFrames.{IsHeldFrame}
use Rattle.plan_law.specs.Solving.{turns_of}
use Rattle.plan_core.specs.HeldPlans.{HeldPlan}
use Rattle.book_core.specs.declared.entry.Entry.{Entry}
use Rattle.book_core.specs.HeldBooks.{ground_of}
use Rattle.worker_pool.specs.declared.outcome.Outcome.{Outcome}
use Rattle.worker_pool.specs.Jobs.{order_of}
use Rattle.worker_pool.specs.Runs.{AreTurnsInOrder}
use Rattle.worker_pool.proofs.Ordered.{no_turns, turn_more}
use Rattle.worker_pool.proofs.run.take_turns.Goals as goal

pub loop-u-init : goal.loop-u-init
loop-u-init c = (
  refl,
  refl,
  subst (λ (j : List Entry). AreTurnsInOrder c.args.limits.now c.args.frame.now (ground_of c.args.book.now) j []) (sym c.requires.book) (no_turns c.args.limits.now c.args.frame.now (ground_of c.args.book.now)),
)

pub turn_alone-outcome-requires-clause-frame : goal.turn_alone-outcome-requires-clause-frame
turn_alone-outcome-requires-clause-frame c = subst (λ (g : HeldPlan). IsHeldFrame g.problem.points c.args.frame.now) (sym c.loop-u.invariant.1) c.requires.frame

pub turn_alone-outcome-requires-clause-turn : goal.turn_alone-outcome-requires-clause-turn
turn_alone-outcome-requires-clause-turn c =
    subst (λ (g : HeldPlan). c.loop-u.u < turns_of (order_of c.args.limits.now) g.problem.inputs) (sym c.loop-u.invariant.1) (let t = c.loop-u-test.true in let l = c.len-u-end.ensures in let n = c.requires.count in omega (arith, t, l, n))

pub at_mut-requires : goal.at_mut-requires
at_mut-requires c = let t = c.loop-u-test.true in let l = c.len-u-end.ensures in let n = c.loop-u.invariant.0 in omega (arith, t, l, n)

pub loop-u-preserved : goal.loop-u-preserved
loop-u-preserved c =
    let w : c.loop-u.u < length c.loop-u.outcomes = (let t = c.loop-u-test.true in let l = c.len-u-end.ensures in let n = c.loop-u.invariant.0 in omega (arith, t, l, n)) in
    let more = turn_more c.args.limits.now c.args.frame.now (ground_of c.args.book.now) (take c.loop-u.u c.loop-u.outcomes) c.loop-u.u c.loop-u.book c.turn_alone-outcome.new.book c.turn_alone-outcome.result
    (let k = length-take-le c.loop-u.u c.loop-u.outcomes (omega (arith, w)) in omega (arith, k, w)) c.loop-u.invariant.1 c.loop-u.invariant.2 c.turn_alone-outcome.ensures in (
      length-set c.loop-u.outcomes c.loop-u.u c.turn_alone-outcome.result ∙ c.loop-u.invariant.0,
      more.0,
      subst (λ (os : List Outcome). AreTurnsInOrder c.args.limits.now c.args.frame.now (ground_of c.args.book.now) c.turn_alone-outcome.new.book.journal os) (sym (take_more_set c.loop-u.outcomes c.loop-u.u c.turn_alone-outcome.result w)) more.1,
    )

pub returns-clause-count : goal.returns-clause-count
returns-clause-count c = c.loop-u.invariant.0 ∙ c.requires.count

pub returns-clause-ground : goal.returns-clause-ground
returns-clause-ground c = c.loop-u.invariant.1

pub returns-clause-turns : goal.returns-clause-turns
returns-clause-turns c =
    subst (λ (os : List Outcome). AreTurnsInOrder c.args.limits.now c.args.frame.now (ground_of c.args.book.now) c.loop-u.book.journal os)
    (take_all c.loop-u.u c.loop-u.outcomes (let t = c.loop-u-test.false in let l = c.len-u-end.ensures in let n = c.loop-u.invariant.0 in omega (arith, t, l, n))) c.loop-u.invariant.2
