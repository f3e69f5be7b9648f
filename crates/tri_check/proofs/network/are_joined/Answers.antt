use Rattle.std.proofs.Common.{true≢false, refl, sym}
use Rattle.edge_table.specs.Edges.{edge}
use Rattle.tri_check.proofs.Nets.{same_ends}
use Rattle.tri_check.proofs.network.are_joined.Goals as goal

pub returns-in-None : goal.returns-in-None
returns-in-None c = (λ t. absurd (true≢false (sym t)), λ h. absurd (same_ends c.args.a c.args.b (c.in-None.ensures.none.0 refl) (c.requires.low_first (edge c.args.a c.args.b) h)))
