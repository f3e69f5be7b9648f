use Rattle.std.proofs.Common.{subst}
use Rattle.tri_theory.specs.Triangulations.{IsSegment}
use Rattle.verify_core.proofs.evidence.count_others.Goals as goal

pub count-requires : goal.count-requires
count-requires c = subst (λ points. IsSegment points c.args.edge) c.requires.points (c.len.ensures.triangulation.triangulation.segments c.args.edge c.requires.there)
