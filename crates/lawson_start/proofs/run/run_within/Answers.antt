use Rattle.std.proofs.Common.{◌≡◌, ◌≢◌, arith}
use Rattle.lawson_start.proofs.Runs.{bad_first, begun_on, over_budget, whole}
use Rattle.lawson_start.proofs.run.run_within.Goals as goal

pub returns-then-left-eq0 : goal.returns-then-left-eq0
returns-then-left-eq0 c =
    let none : c.loop-e.left ≡ 0 = omega arith in
    over_budget c.args.input.now.points c.args.input.now.edges c.args.budget c.loop-e.left c.loop-e.track c.loop-e.mesh c.loop-e.bad c.in-Some.e none c.loop-e.invariant.begun c.loop-e.invariant.stands c.in-Some.ensures.some

pub step-requires-clause-here : goal.step-requires-clause-here
step-requires-clause-here c = bad_first c.loop-e.mesh c.loop-e.bad c.in-Some.e c.loop-e.invariant.stands.bad_edges c.in-Some.ensures.some

pub loop-e-preserved : goal.loop-e-preserved
loop-e-preserved c =
    let some : c.loop-e.left ≢ 0 = (λ e. omega arith) in
    record {
      stands = c.in_ok-step.ensures.stands;
      begun =
          begun_on c.args.input.now.points c.args.input.now.edges c.args.budget c.loop-e.left c.loop-e.track c.step.new.track c.loop-e.mesh c.loop-e.bad c.in-Some.e some c.loop-e.invariant.begun c.loop-e.invariant.stands c.in-Some.ensures.some
          c.in_ok-step.ensures.follows;
    }

pub returns : goal.returns
returns c =
    whole c.args.input.now.points c.args.input.now.edges c.args.budget c.loop-e.left c.loop-e.track c.loop-e.mesh c.loop-e.bad c.len.ensures.triangulation c.loop-e.invariant.begun c.loop-e.invariant.stands c.in_default.ensures.none
