use Rattle.std.proofs.Common.{◌<◌, length, All, sym, subst, arith}
use Rattle.worker_pool.specs.declared.outcome.Outcome.TheVariants.{Published}
use Rattle.worker_crew.specs.declared.taken.Taken.{Taken}
use Rattle.worker_crew.proofs.run.put_part.Goals as goal

pub at_mut-requires : goal.at_mut-requires
at_mut-requires c = let all = subst (All (λ (t : Taken). t.turn < length c.args.outcomes.now)) (sym c.as_slice-taken-items.ensures) c.requires in
    let below = all c.loop-taken.taken-index (record { turn = 0; outcome = Published 0 0 }) c.loop-taken-test.true in let same = c.loop-taken.invariant.0 in omega (arith, below, same)
