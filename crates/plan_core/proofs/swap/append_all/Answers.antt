use Rattle.std.proofs.Common.{◌≡◌, Some, sym, subst}
use Rattle.plan_law.specs.Images.{flips_in_turn}
use Rattle.plan_core.proofs.Turns.{next_flips, turns_on}
use Rattle.plan_core.proofs.swap.append_all.Goals as goal

pub append-requires-clause-flips : goal.append-requires-clause-flips
append-requires-clause-flips c =
    next_flips c.as_slice-e-items.result.now c.loop-e.e-index c.args.track.now c.loop-e.track c.loop-e.invariant c.e-item.result c.requires.found.0 c.loop-e-test.true c.e-item.is
    (subst (λ es. flips_in_turn c.args.track.now.points c.args.track.now.end es ≡ Some c.requires.found.0) (sym c.as_slice-e-items.ensures) c.requires.found.1)

pub loop-e-preserved : goal.loop-e-preserved
loop-e-preserved c = turns_on c.as_slice-e-items.result.now c.loop-e.e-index c.args.track.now c.loop-e.track c.loop-e.invariant c.append.new.self c.e-item.result c.append.result c.loop-e-test.true c.e-item.is c.append.ensures
