use Rattle.std.proofs.Common.{[], ◌∷◌, refl}
use Rattle.book_core.proofs.Following.{stops_at}
use Rattle.book_core.proofs.steps.make_move_of_one.Goals as goal

pub returns-then-not-flips-clause-err : goal.returns-then-not-flips-clause-err
returns-then-not-flips-clause-err c =
    let P = c.args.plan.now.problem.points in
    stops_at P P c.args.plan.now.problem.inputs c.args.plan.now.plan c.args.plan.now.plan (c.args.e ∷ []) 0 c.args.e c.flips.result
    refl c.total-held.ensures.problem c.total-held.ensures.plan c.flips.ensures c.if-not-flips.true refl refl
