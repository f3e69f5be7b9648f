-- What is seen of a track.
use Rattle.std.specs.Prelude.{ℕ, List}
use Rattle.geo_orient.specs.declared.Point.{Point}
use Rattle.edge_table.specs.declared.edge.Edge.{Edge}
use Rattle.flip_list_law.specs.declared.Flip.{Flip}

-- a flip list of a point list, with the edges where it starts and where it ends, and how many more flips it can take without memory
pub record FlipTrack : Type 0 where
  pub points : List Point
  pub start : List Edge
  pub flips : List Flip
  pub end : List Edge
  pub spare : ℕ

abbrev pub flip : Edge → Edge → Flip
flip e f = record { edge = e; image = f }
