-- Tables of the triangles of a set of members: for each member the third corners on its two sides.
use Rattle.std.specs.Prelude.{◌≡◌, ℕ, ◌<◌, cond, List, [], ◌∷◌, length, Contains}
use Rattle.geo_orient.specs.declared.Point.{Point}
use Rattle.edge_table.specs.declared.edge.Edge.{Edge}
use Rattle.edge_table.specs.Edges.{is_edge, IsAscending}
use Rattle.planar_law.specs.Patches.{IsSided}
use Rattle.tri_check.specs.declared.table.Thirds.{Thirds}

-- the table has one entry for each member
pub record IsTableOf (edges : List Edge) (table : List Thirds) : Type 0 where
  pub ascending : IsAscending edges
  pub low_first : (e : Edge) → Contains edges e → e.0 < e.1
  pub count : length table ≡ length edges

-- the third corner that the table has for the way from a to b, on its left
unfoldable pub third : List Edge → List Thirds → ℕ → ℕ → ℕ
third [] table a b = 0
third (e ∷ es) [] a b = 0
third (e ∷ es) (t ∷ table) a b = cond (is_edge e (a, b)) t.left (cond (is_edge e (b, a)) t.right (third es table a b))

-- the third corners that the table has for a member make triangles that fit to their neighbours
abbrev pub Fits : List Point → List Edge → List Thirds → Edge → Type 0
Fits points edges table e = IsSided points edges (third edges table) e
