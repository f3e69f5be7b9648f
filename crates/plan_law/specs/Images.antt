-- Which edges flip, and to what: tests and functions that compute.
use Rattle.std.specs.Prelude.{ℕ, zero, suc, Bool, true, false, cond, ◌&&◌, ◌||◌, eqb, Option, Some, None, List, [], ◌∷◌, length, find, filter}
use Rattle.std.specs.Option.{is_some}
use Rattle.std.specs.List.{range_with_len}
use Rattle.geo_orient.specs.declared.Point.{Point}
use Rattle.edge_table.specs.declared.edge.Edge.{Edge}
use Rattle.edge_table.specs.Edges.{edge}
use Rattle.tri_theory.specs.Crossings.{is_left, crosses}
use Rattle.flip_list_law.specs.declared.Flip.{Flip}
use Rattle.flip_list_law.specs.FlipLists.{with_edge}

abbrev pub is_equal : Edge → Edge → Bool
is_equal e f = eqb e.0 f.0 && eqb e.1 f.1

-- e is a member
abbrev pub has_member : List Edge → Edge → Bool
has_member [] e = false
has_member (f ∷ es) e = is_equal f e || has_member es e

-- the two lists are one
abbrev pub are_equal : List Edge → List Edge → Bool
are_equal [] [] = true
are_equal [] (f ∷ fs) = false
are_equal (e ∷ es) [] = false
are_equal (e ∷ es) (f ∷ fs) = is_equal e f && are_equal es fs

-- the members without e
abbrev pub without : Edge → List Edge → List Edge
without e [] = []
without e (f ∷ es) = cond (is_equal f e) (without e es) (f ∷ without e es)

abbrev pub all_below : ℕ → (ℕ → Bool) → Bool
all_below zero test = true
all_below (suc n) test = test n && all_below n test

-- p is a corner, or lies outside the closed triangle
abbrev pub is_off : List Point → ℕ → ℕ → ℕ → ℕ → Bool
is_off points a b c p = eqb p a || (eqb p b || (eqb p c || (is_left points b a p || (is_left points c b p || is_left points a c p))))

-- the test of `IsEmptyTriangle`
abbrev pub is_empty_triangle : List Point → List Edge → ℕ → ℕ → ℕ → Bool
is_empty_triangle points edges a b c =
    is_left points a b c && (has_member edges (edge a b) && (has_member edges (edge b c) && (has_member edges (edge c a) && all_below (length points) (is_off points a b c))))

-- the third corners of the empty triangles at an edge, right and left of the way from its lower end to its higher one
abbrev pub right_corner : List Point → List Edge → Edge → Option ℕ
right_corner points edges e = find (λ b. is_empty_triangle points edges e.0 b e.1) (range_with_len 0 (length points))

abbrev pub left_corner : List Point → List Edge → Edge → Option ℕ
left_corner points edges e = find (λ d. is_empty_triangle points edges e.0 e.1 d) (range_with_len 0 (length points))

-- the edge of the two corners, where the member e crosses it
abbrev pub image_at : List Point → List Edge → Edge → Option ℕ → Option ℕ → Option Edge
image_at points edges e (Some b) (Some d) = cond (has_member edges e && crosses points e (edge b d)) (Some (edge b d)) None
image_at points edges e (Some b) None = None
image_at points edges e None right = None

-- the image of e, if e flips
abbrev pub image_of : List Point → List Edge → Edge → Option Edge
image_of points edges e = image_at points edges e (right_corner points edges e) (left_corner points edges e)

-- the edges that flip, in order
abbrev pub flippable : List Point → List Edge → List Edge
flippable points edges = filter (λ e. is_some (image_of points edges e)) edges

-- the members after a flip, and after flips one after the other
abbrev pub after_flip : List Edge → Flip → List Edge
after_flip edges flip = with_edge flip.image (without flip.edge edges)

abbrev pub after_flips : List Edge → List Flip → List Edge
after_flips edges [] = edges
after_flips edges (flip ∷ flips) = after_flips (after_flip edges flip) flips

-- the flips of edges, each where the earlier ones led, if each of them flips
abbrev pub put_first : Flip → Option (List Flip) → Option (List Flip)
put_first flip (Some flips) = Some (flip ∷ flips)
put_first flip None = None

abbrev pub flips_in_turn : List Point → List Edge → List Edge → Option (List Flip)
flips_in_turn points edges [] = Some []
flips_in_turn points edges (e ∷ es) =
    elim (image_of points edges e) [
      | Some f ↦ put_first (record { edge = e; image = f }) (flips_in_turn points (after_flip edges (record { edge = e; image = f })) es)
      | None ↦ None
    ]
