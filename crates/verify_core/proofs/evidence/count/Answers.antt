use Rattle.std.proofs.Common.{◌∙◌, ap}
use Rattle.tri_theory.specs.Crossings.{crossings}
use Rattle.tri_check.specs.Layouts.{Layout}
use Rattle.verify_core.proofs.evidence.count.Goals as goal

pub returns : goal.returns
returns c = c.crossings.ensures ∙ ap (λ (m : Layout). crossings m.points m.edges c.args.edge) c.in_ok-mesh.ensures
