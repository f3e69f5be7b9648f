-- Flips in the end of a track.
use Rattle.std.proofs.Common.{◌≡◌, ◌≢◌, ◌∙◌, ℕ, suc, ◌<◌, Some, List, [], ◌∷◌, ◌++◌, length, remove, sym, ap, ap₂, subst, subst₂}
use Rattle.geo_orient.specs.declared.Point.{Point}
use Rattle.edge_table.specs.declared.edge.Edge.{Edge}
use Rattle.tri_theory.specs.Points.{ArePlaced}
use Rattle.tri_theory.specs.Triangulations.{AreJoined, IsTriangulation}
use Rattle.tri_theory.specs.Flips.{IsQuad, FlipsTo, IsFlip}
use Rattle.tri_theory.proofs.Proved.{images_are_unique}
use Rattle.tri_theory.proofs.Flip.{b_not_d}
use Rattle.tri_theory.proofs.Lists.{plane, quad_to, net_of}
use Rattle.tri_check.specs.Layouts.{Layout}
use Rattle.flip_list_law.specs.declared.Flip.{Flip}
use Rattle.flip_list_law.specs.FlipLists.{IsFlipList, one_side, rounds_before, last_numbers, round_numbers, undone_by}
use Rattle.flip_list_law.specs.Laws.{Cancels}
use Rattle.flip_list_law.proofs.FlipLists.{list_triangulation}
use Rattle.flip_list_law.proofs.Proved.{flips_append, flips_cancel, undone_by_the_maker}
use Rattle.round_pack.specs.Tracks.{flip}
use Rattle.round_pack.specs.Chains.{AreOrdered}
use Rattle.round_pack.proofs.Chains.{list_ordered}
use Rattle.round_pack.proofs.Makers.{maker_within}
use Rattle.round_pack.specs.States.{AreKept}

pub ends_differ : (points : List Point) → ArePlaced points → (edges : List Edge) → IsTriangulation points edges → (a b c d : ℕ) → IsQuad points edges a b c d → b ≢ d
ends_differ points P edges I a b c d q = b_not_d (plane points P) (AreJoined edges) (AreJoined edges) (net_of points P edges I) (quad_to points P edges a b c d q)

-- the end is a triangulation of the same points
pub end_placed : (start end : Layout) (flips : List Flip) (numbers : List ℕ) → AreKept start end flips numbers → ArePlaced end.points
end_placed start end flips numbers k = subst ArePlaced (sym k.points) k.triangulated.placed

pub end_triangulation : (start end : Layout) (flips : List Flip) (numbers : List ℕ) → AreKept start end flips numbers → IsTriangulation end.points end.edges
end_triangulation start end flips numbers k =
    subst (λ ps. IsTriangulation ps end.edges) (sym k.points)
    (list_triangulation start.points k.triangulated.placed start.edges end.edges flips k.triangulated.triangulation k.leads)

-- ---- one flip more, one flip less
pub kept_append : (start end next : Layout) (flips items : List Flip) (numbers ns : List ℕ) (e f : Edge) (n : ℕ) → AreKept start end flips numbers → next.points ≡ end.points → IsFlip end.points end.edges e f next.edges
    → n ≡ suc (rounds_before (last_numbers flips) (flip e f)) → items ≡ flips ++ flip e f ∷ [] → ns ≡ numbers ++ n ∷ [] → AreKept start next items ns
kept_append start end next flips items numbers ns e f n k h F en ei es =
    let a = flips_append start.points start.edges end.edges next.edges flips (flip e f) k.leads (subst (λ ps. IsFlip ps end.edges e f next.edges) k.points F) in
    record {
      points = h ∙ k.points;
      triangulated = k.triangulated;
      leads = subst (λ fs. IsFlipList start.points start.edges fs next.edges) (sym ei) a.leads;
      numbered = es ∙ ap₂ (λ ms m. ms ++ m ∷ []) k.numbered en ∙ sym a.numbers ∙ ap round_numbers (sym ei);
    }

-- the flip of e has one image
pub one_flip : (start end : Layout) (flips : List Flip) (numbers : List ℕ) (x : Flip) (e f : Edge) → AreKept start end flips numbers → x.edge ≡ e → FlipsTo end.points end.edges e x.image → FlipsTo end.points end.edges e f → x ≡ flip e f
one_flip start end flips numbers x e f k h X F =
    let i = images_are_unique end.points end.edges e x.image f (end_placed start end flips numbers k) (end_triangulation start end flips numbers k) X F in
    λ j. record { edge = h j; image = i j }

pub cancels : (start end next : Layout) (flips : List Flip) (numbers : List ℕ) (e f : Edge) (place : ℕ) → AreKept start end flips numbers → IsFlip end.points end.edges e f next.edges → undone_by flips (flip e f) ≡ Some place
    → Cancels start.points start.edges flips place (flip e f) next.edges
cancels start end next flips numbers e f place k F u =
    flips_cancel start.points start.edges end.edges next.edges flips (flip e f) place k.triangulated.placed k.triangulated.triangulation k.leads (subst (λ ps. IsFlip ps end.edges e f next.edges) k.points F) u

pub kept_cancel : (start end next : Layout) (flips items : List Flip) (numbers ns : List ℕ) (e f : Edge) (place : ℕ) → AreKept start end flips numbers → next.points ≡ end.points → IsFlip end.points end.edges e f next.edges
    → undone_by flips (flip e f) ≡ Some place → items ≡ remove flips place → ns ≡ remove numbers place → AreKept start next items ns
kept_cancel start end next flips items numbers ns e f place k h F u ei es =
    let a = cancels start end next flips numbers e f place k F u in
    record {
      points = h ∙ k.points;
      triangulated = k.triangulated;
      leads = subst (λ fs. IsFlipList start.points start.edges fs next.edges) (sym ei) a.leads;
      numbered = es ∙ ap (λ ms. remove ms place) k.numbered ∙ sym a.numbers ∙ ap round_numbers (sym ei);
    }

pub undone_within : (flips : List Flip) (x : Flip) (place : ℕ) → undone_by flips x ≡ Some place → place < length flips
undone_within flips x place u = maker_within flips (one_side x) place ((undone_by_the_maker flips x place).0 u).0

pub kept_ordered : (start end : Layout) (flips : List Flip) (numbers : List ℕ) → AreKept start end flips numbers → AreOrdered flips
kept_ordered start end flips numbers k = list_ordered start.points start.edges end.edges flips k.leads

-- an equal start, end and list
pub kept_same : (start end s e : Layout) (flips fs : List Flip) (numbers ns : List ℕ) → AreKept start end flips numbers → s.points ≡ start.points → s.edges ≡ start.edges → e ≡ end → fs ≡ flips → ns ≡ numbers → AreKept s e fs ns
kept_same start end s e flips fs numbers ns k p q r u v =
    let same : s ≡ start = λ j. record { points = p j; edges = q j } in
    subst₂ (λ a b. AreKept a b fs ns) (sym same) (sym r) (subst₂ (AreKept start end) (sym u) (sym v) k)
