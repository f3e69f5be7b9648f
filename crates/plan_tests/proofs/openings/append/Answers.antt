use Rattle.std.proofs.Common.{subst}
use Rattle.tri_theory.specs.Flips.{Flips}
use Rattle.plan_tests.proofs.openings.append.Goals as goal

pub append-requires-clause-flips : goal.append-requires-clause-flips
append-requires-clause-flips c =
    subst (λ ps. Flips ps c.reserve.new.self.end c.args.e) c.in_ok-end.ensures.points
    (subst (λ es. Flips c.in_ok-end.field-0.points es c.args.e) c.in_ok-end.ensures.edges (subst (λ m. Flips m.points m.edges c.args.e) c.in_ok-mesh.ensures c.in-Some.ensures.flips))
