use Rattle.std.proofs.Common.{◌∙◌, ◌<◌, length, ap, arith}
use Rattle.worker_pool.specs.declared.outcome.Outcome.{Outcome}
use Rattle.worker_crew.specs.declared.taken.Taken.{Taken}
use Rattle.worker_crew.proofs.Filled.{length-filled}
use Rattle.worker_crew.proofs.Filling.{part_within, one_part_more}
use Rattle.worker_crew.proofs.run.put_parts.Goals as goal

pub put_part-requires : goal.put_part-requires
put_part-requires c = λ k d lt. let all = part_within (λ (t : Taken). t.turn < length c.args.outcomes.now) c.args.parts.now.items c.loop-place.place c.at.result.now c.at.ensures c.requires in
    let below = all k d lt in let same = c.loop-place.invariant.0 in omega (arith, below, same)

pub loop-place-preserved : goal.loop-place-preserved
loop-place-preserved c = (
  ap (length {A = Outcome}) c.put_part.ensures ∙ length-filled c.loop-place.outcomes c.at.result.now ∙ c.loop-place.invariant.0,
  one_part_more c.args.outcomes.now c.loop-place.outcomes c.put_part.new.outcomes c.args.parts.now.items c.loop-place.place c.at.result.now c.at.ensures c.put_part.ensures c.loop-place.invariant.1,
)
