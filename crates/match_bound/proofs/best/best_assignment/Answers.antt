use Rattle.std.proofs.Common.{length, ◌∙◌}
use Rattle.match_bound.specs.Tables.{weight}
use Rattle.match_bound.proofs.Stages.{stage_begun}
use Rattle.match_bound.proofs.best.best_assignment.Goals as goal

pub match_all-requires : goal.match_all-requires
match_all-requires c =
    stage_begun (weight c.args.w.now) (length c.args.w.now) c.side-m.result c.deref_mut.result.now c.deref_mut-2.result.now c.deref_mut-3.result.now c.side-m.ensures.table.small c.side-m.ensures.side
    (c.deref_mut.ensures.value ∙ c.in_ok-image.ensures) (c.deref_mut-2.ensures.value ∙ c.in_ok-u.ensures) (c.deref_mut-3.ensures.value ∙ c.in_ok-v.ensures)
