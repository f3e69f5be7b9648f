-- The ways of sides, and sides that are on a way.
use Rattle.std.proofs.Common.{◌≡◌, ℕ, List, Contains}
use Rattle.edge_table.proofs.Edges.{pair}
use Rattle.side_table.specs.declared.side.Side.{Side}
use Rattle.side_table.specs.Sides.{IsWay, HasSide}
use Rattle.side_table.proofs.Ordered.{way}

pub way_is : (s : Side) (u v : ℕ) → IsWay s u v → way s ≡ (u, v)
way_is s u v w = pair w.0 w.1

pub has : (sides : List Side) (s : Side) → Contains sides s → HasSide sides s.from s.to
has sides s h = record { apex = s.apex; there = h }
