-- The text of a solution.
use Rattle.std.specs.Prelude.{ℕ, ◌<◌, List, [], ◌∷◌, map, codes}
use Rattle.serde_json.specs.Data.{Data, number, unsigned, string, array, object, no_members, member}
use Rattle.serde_json.specs.View.{items_of}
use Rattle.serde_json.specs.Written.{compact_text}
use Rattle.edge_table.specs.declared.edge.Edge.{Edge}
use Rattle.solution_json.specs.declared.solution.Solution.{Solution}

-- the two ends, the lower one first
abbrev pub pair_data : Edge → Data
pair_data e = array (items_of (number (unsigned e.0) ∷ number (unsigned e.1) ∷ []))

abbrev pub round_data : List Edge → Data
round_data edges = array (items_of (map pair_data edges))

abbrev pub rounds_data : List (List Edge) → Data
rounds_data rounds = array (items_of (map round_data rounds))

abbrev pub lists_data : List (List (List Edge)) → Data
lists_data lists = array (items_of (map rounds_data lists))

abbrev pub object_data : List ℕ → Data → Data
object_data uid flips =
    object (member (codes "content_type") (string (codes "CGSHOP2026_Solution"))
    (member (codes "flips") flips
    (member (codes "instance_uid") (string uid)
    (member (codes "meta") (object no_members) no_members))))

-- the text with no space: content type, flips, name, and an empty object, in this order
abbrev pub text_of : Solution → List ℕ
text_of s = compact_text (object_data s.uid (lists_data s.lists))

-- the pair is an edge of points that 32 bits can name
abbrev pub IsEdge : Edge → Type 0
IsEdge e = (e.0 < e.1) × (e.1 < 4294967296)
