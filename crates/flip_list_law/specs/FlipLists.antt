-- Flip lists: the round numbers of their flips, their grouping into rounds, and how a list follows one more flip.
use Rattle.std.specs.Prelude.{◌≡◌, ℕ, zero, suc, min, max, Bool, cond, ◌&&◌, ◌||◌, ◌==◌, Option, Some, None, List, [], ◌∷◌, ◌++◌, map, remove}
use Rattle.geo_orient.specs.declared.Point.{Point}
use Rattle.edge_table.specs.declared.edge.Edge.{Edge}
use Rattle.edge_table.specs.Edges.{is_before}
use Rattle.tri_theory.specs.Flips.{IsFlip}
use Rattle.flip_list_law.specs.declared.Flip.{Flip}

-- a flip leads from one edge set to another
abbrev pub Leads : List Point → List Edge → Flip → List Edge → Type 0
Leads points edges flip next = IsFlip points edges flip.edge flip.image next

-- a flip list, which leads from one edge set to another: each edge flips where the earlier ones led
abbrev pub IsFlipList : List Point → List Edge → List Flip → List Edge → Type 0
IsFlipList points from [] to = from ≡ to
IsFlipList points from (flip ∷ flips) to = (next : List Edge) × Leads points from flip next × IsFlipList points next flips to

-- the edges of a list's flips
abbrev pub flipped_edges : List Flip → List Edge
flipped_edges flips = map (λ (flip : Flip). flip.edge) flips

-- the edges of a list flip in turn, each where the earlier ones led
abbrev pub FlipInTurn : List Point → List Edge → List Edge → List Edge → Type 0
FlipInTurn points from [] to = from ≡ to
FlipInTurn points from (e ∷ es) to = (f : Edge) × (next : List Edge) × IsFlip points from e f next × FlipInTurn points next es to

-- ---- which flip last made a triangle

-- a triangle: the numbers of its corners, ascending
abbrev pub Triangle : Type 0
Triangle = ℕ × ℕ × ℕ

-- the triangle of three points, in any order
unfoldable pub triangle : ℕ → ℕ → ℕ → Triangle
triangle a b c = (min a (min b c), max (min a b) (min (max a b) c), max a (max b c))

-- the two triangles at a flip's edge, each with an end of its image as its third corner
abbrev pub one_side : Flip → Triangle
one_side flip = triangle flip.edge.0 flip.edge.1 flip.image.0

abbrev pub other_side : Flip → Triangle
other_side flip = triangle flip.edge.0 flip.edge.1 flip.image.1

unfoldable pub is_same : Triangle → Triangle → Bool
is_same s t = (s.0 == t.0) && ((s.1 == t.1) && (s.2 == t.2))

-- a flip makes the two triangles at its image, each with an end of its edge as its third corner
unfoldable pub makes : Flip → Triangle → Bool
makes flip t = is_same t (triangle flip.image.0 flip.image.1 flip.edge.0) || is_same t (triangle flip.image.0 flip.image.1 flip.edge.1)

-- the place of the flip that last made the triangle, if one did
abbrev pub last_maker : List Flip → Triangle → Option ℕ
last_maker [] t = None
last_maker (flip ∷ flips) t = elim (last_maker flips t) [ Some place ↦ Some (suc place) | None ↦ cond (makes flip t) (Some 0) None ]

-- ---- round numbers

-- the rounds that have to come before a flip, where `number_of` tells for each triangle the number of the flip that last made it, or 0
abbrev pub rounds_before : (Triangle → ℕ) → Flip → ℕ
rounds_before number_of flip = max (number_of (one_side flip)) (number_of (other_side flip))

-- the same for each triangle once the flip is made, which has the next number
abbrev pub number_after : (Triangle → ℕ) → Flip → Triangle → ℕ
number_after number_of flip t = cond (makes flip t) (suc (rounds_before number_of flip)) (number_of t)

abbrev pub numbers_from : (Triangle → ℕ) → List Flip → List ℕ
numbers_from number_of [] = []
numbers_from number_of (flip ∷ flips) = suc (rounds_before number_of flip) ∷ numbers_from (number_after number_of flip) flips

-- the round numbers of a list's flips
abbrev pub round_numbers : List Flip → List ℕ
round_numbers flips = numbers_from (λ t. 0) flips

abbrev pub last_numbers_from : (Triangle → ℕ) → List Flip → Triangle → ℕ
last_numbers_from number_of [] = number_of
last_numbers_from number_of (flip ∷ flips) = last_numbers_from (number_after number_of flip) flips

-- for each triangle the number of the flip of the list that last made it, or 0
abbrev pub last_numbers : List Flip → Triangle → ℕ
last_numbers flips = last_numbers_from (λ t. 0) flips

-- the greatest number, or 0
abbrev pub greatest : List ℕ → ℕ
greatest [] = 0
greatest (n ∷ ns) = max n (greatest ns)

abbrev pub round_count : List Flip → ℕ
round_count flips = greatest (round_numbers flips)

-- ---- the grouping

-- a list in edge order with one edge more
abbrev pub with_edge : Edge → List Edge → List Edge
with_edge e [] = e ∷ []
with_edge e (f ∷ es) = cond (is_before e f) (e ∷ f ∷ es) (f ∷ with_edge e es)

-- the rounds with one edge more, in the round before which there are `before` others
abbrev pub with_edge_in : ℕ → Edge → List (List Edge) → List (List Edge)
with_edge_in zero e [] = (e ∷ []) ∷ []
with_edge_in zero e (round ∷ rounds) = with_edge e round ∷ rounds
with_edge_in (suc before) e [] = [] ∷ with_edge_in before e []
with_edge_in (suc before) e (round ∷ rounds) = round ∷ with_edge_in before e rounds

abbrev pub grouped_from : (Triangle → ℕ) → List (List Edge) → List Flip → List (List Edge)
grouped_from number_of rounds [] = rounds
grouped_from number_of rounds (flip ∷ flips) = grouped_from (number_after number_of flip) (with_edge_in (rounds_before number_of flip) flip.edge rounds) flips

-- the rounds of a list: its edges grouped by their numbers, each round in edge order
abbrev pub grouped : List Flip → List (List Edge)
grouped flips = grouped_from (λ t. 0) [] flips

-- the images of the flips with a number, in edge order
abbrev pub images_of : ℕ → List Flip → List ℕ → List Edge
images_of n [] numbers = []
images_of n (flip ∷ flips) [] = []
images_of n (flip ∷ flips) (m ∷ numbers) = cond (m == n) (with_edge flip.image (images_of n flips numbers)) (images_of n flips numbers)

-- the images of the last round, or none
abbrev pub last_images : List Flip → List Edge
last_images flips = images_of (round_count flips) flips (round_numbers flips)

-- the edges of rounds, one round after the other
abbrev pub in_turn : List (List Edge) → List Edge
in_turn [] = []
in_turn (round ∷ rounds) = round ++ in_turn rounds

-- ---- following one more flip

abbrev pub same_place : Option ℕ → Option ℕ → Option ℕ
same_place (Some i) (Some j) = cond (i == j) (Some i) None
same_place _ _ = None

-- the place of the one flip that last made both triangles at the flip's edge, if there is one
abbrev pub undone_by : List Flip → Flip → Option ℕ
undone_by flips flip = same_place (last_maker flips (one_side flip)) (last_maker flips (other_side flip))

-- following: where one flip last made both triangles it is taken out, else the new flip is appended
abbrev pub follow : List Flip → Flip → List Flip
follow flips flip = elim (undone_by flips flip) [ Some place ↦ remove flips place | None ↦ flips ++ (flip ∷ []) ]
