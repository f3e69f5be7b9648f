use Rattle.std.proofs.Common.{Contains, subst, arith}
use Rattle.plan_core.proofs.Trials.{not_fewer}
use Rattle.plan_core.proofs.trial.least_rounds.Goals as goal

pub returns-then-not-are_among : goal.returns-then-not-are_among
returns-then-not-are_among c =
    let found = c.are_among.ensures c.if-not-are_among.true in
    let h = not_fewer c.args.edges.now c.args.track.now found.0 c.requires (subst (λ es. Contains es found.0) c.in_ok-images.ensures.images found.1) found.2 in
    omega (arith, c.rounds.ensures, h)
