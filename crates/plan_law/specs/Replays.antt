-- Replaying rounds edge by edge: where they lead, or the first fault.
use Rattle.std.specs.Prelude.{◌≡◌, ◌↔◌, ℕ, ◌+◌, Bool, cond, not, ◌||◌, Option, Some, None, Result, Ok, Err, List, [], ◌∷◌, ◌++◌, find}
use Rattle.geo_orient.specs.declared.Point.{Point}
use Rattle.tri_theory.specs.Points.{ArePlaced}
use Rattle.edge_table.specs.declared.edge.Edge.{Edge}
use Rattle.tri_theory.specs.Triangulations.{IsTriangulation}
use Rattle.flip_list_law.specs.declared.Flip.{Flip}
use Rattle.flip_list_law.specs.FlipLists.{is_same, one_side, other_side, flipped_edges}
use Rattle.plan_law.specs.Images.{has_member, image_of, after_flips}
use Rattle.plan_law.specs.Books.{AreRoundsOf}

-- what is wrong with an edge of a round, with the round's place from 0
pub data RoundFault : Type 0 where
  NotEdge : (round : ℕ) → (e : Edge) → RoundFault
  Twice : (round : ℕ) → (e : Edge) → RoundFault
  NotConvex : (round : ℕ) → (e : Edge) → RoundFault
  SharedTriangle : (round : ℕ) → (e : Edge) → (earlier : Edge) → RoundFault

-- a triangle at the one flip's edge is at the other's too
abbrev pub shares : Flip → Flip → Bool
shares flip g =
    (is_same (one_side g) (one_side flip) || is_same (one_side g) (other_side flip)) || (is_same (other_side g) (one_side flip) || is_same (other_side g) (other_side flip))

-- the flip, if it shares no triangle with an earlier one of the round
abbrev pub apart_from : ℕ → List Flip → Flip → Result Flip RoundFault
apart_from k earlier flip = elim (find (shares flip) earlier) [ Some g ↦ Err (SharedTriangle k flip.edge g.edge) | None ↦ Ok flip ]

-- the flip of the next edge of a round, after the earlier ones, or its fault
abbrev pub tried : List Point → List Edge → ℕ → List Flip → Edge → Result Flip RoundFault
tried points edges k earlier e =
    cond (has_member edges e)
    (cond (has_member (flipped_edges earlier) e) (Err (Twice k e)) (elim (image_of points edges e) [ Some f ↦ apart_from k earlier (record { edge = e; image = f }) | None ↦ Err (NotConvex k e) ]))
    (Err (NotEdge k e))

-- the flips of a round, or its first fault
abbrev pub round_flips : List Point → List Edge → ℕ → List Flip → List Edge → Result (List Flip) RoundFault
round_flips points edges k earlier [] = Ok earlier
round_flips points edges k earlier (e ∷ es) = elim (tried points edges k earlier e) [ Ok flip ↦ round_flips points edges k (earlier ++ (flip ∷ [])) es | Err fault ↦ Err fault ]

-- where rounds lead, the first of them at place k, or the first fault
abbrev pub replayed : List Point → List Edge → ℕ → List (List Edge) → Result (List Edge) RoundFault
replayed points edges k [] = Ok edges
replayed points edges k (round ∷ rounds) = elim (round_flips points edges k [] round) [ Ok flips ↦ replayed points (after_flips edges flips) (k + 1) rounds | Err fault ↦ Err fault ]

-- what is wrong with rounds that are to lead to a centre: a fault of theirs, or the first edge of their end that isn't in the centre
pub data SwapFault : Type 0 where
  Round : (fault : RoundFault) → SwapFault
  OtherEnd : (e : Edge) → SwapFault

abbrev pub end_fault : List Edge → List Edge → Option SwapFault
end_fault centre end = elim (find (λ e. not (has_member centre e)) end) [ Some e ↦ Some (OtherEnd e) | None ↦ None ]

abbrev pub swap_fault : List Point → List Edge → List (List Edge) → List Edge → Option SwapFault
swap_fault points input rounds centre = elim (replayed points input 0 rounds) [ Ok end ↦ end_fault centre end | Err fault ↦ Some (Round fault) ]

-- ---- the laws

-- rounds that are replayed without a fault are those that lead on and name each edge once
abbrev pub ReplaysAreSchedules : Type 0
ReplaysAreSchedules =
    (points : List Point) (edges to : List Edge) (k : ℕ) (rounds : List (List Edge)) → ArePlaced points → IsTriangulation points edges → (replayed points edges k rounds ≡ Ok to) ↔ AreRoundsOf points edges rounds to

-- and they have no fault on the way to a centre where they lead to it
abbrev pub FaultlessRoundsLead : Type 0
FaultlessRoundsLead =
    (points : List Point) (input centre : List Edge) (rounds : List (List Edge)) → ArePlaced points → IsTriangulation points input → IsTriangulation points centre
    → (swap_fault points input rounds centre ≡ None) ↔ AreRoundsOf points input rounds centre
