-- What is seen of a track before and after a flip.
use Rattle.std.proofs.Common.{◌≡◌, ◌∙◌, ℕ, suc, ◌<◌, ◌-◌, max, None, Some, List, [], ◌∷◌, ◌++◌, remove, refl, sym, ap, ap₂, subst, arith}
use Rattle.edge_table.specs.declared.edge.Edge.{Edge}
use Rattle.tri_theory.specs.Flips.{FlipsTo, IsFlip}
use Rattle.tri_theory.proofs.Proved.{images_are_unique}
use Rattle.tri_check.specs.Layouts.{Layout}
use Rattle.flip_list_law.specs.declared.Flip.{Flip}
use Rattle.flip_list_law.specs.FlipLists.{rounds_before, last_numbers, greatest, round_count, undone_by, follow}
use Rattle.flip_list_law.proofs.FlipLists.{greatest_last}
use Rattle.flip_list_law.proofs.Proved.{flips_lead}
use Rattle.round_pack.specs.States.{AreKept}
use Rattle.round_pack.specs.Tracks.{FlipTrack, flip}
use Rattle.round_pack.specs.Follows.{IsAppended, IsCancelled, IsNotCancelled}
use Rattle.round_pack.proofs.Ends.{end_placed, end_triangulation, one_flip, cancels, kept_cancel}

abbrev pub seen : Layout → Layout → List Flip → ℕ → FlipTrack
seen start end flips room = record { points = start.points; start = start.edges; flips = flips; end = end.edges; spare = room }

module _ (start end : Layout) (flips : List Flip) (numbers : List ℕ) (k : AreKept start end flips numbers) (e : Edge) where
  -- the flip that the code made is the flip of e
  pub made_is : (x : Flip) (f : Edge) → x.edge ≡ e → FlipsTo end.points end.edges e x.image → FlipsTo end.points end.edges e f → x ≡ flip e f
  made_is x f h X F = one_flip start end flips numbers x e f k h X F

  same_image : (f g : Edge) (next : Layout) → FlipsTo end.points end.edges e f → IsFlip end.points end.edges e g next.edges → IsFlip end.points end.edges e f next.edges
  same_image f g next F G =
      subst (λ y. IsFlip end.points end.edges e y next.edges) (images_are_unique end.points end.edges e g f (end_placed start end flips numbers k) (end_triangulation start end flips numbers k) G.flips F) G

  pub seen_flips : (room : ℕ) (v : FlipTrack) → seen start end flips room ≡ v → (f : Edge) → FlipsTo v.points v.end e f → FlipsTo end.points end.edges e f
  seen_flips room v is f F = subst (λ ps. FlipsTo ps end.edges e f) (sym k.points) (subst (λ (w : FlipTrack). FlipsTo w.points w.end e f) (sym is) F)

  pub is_appended : (g : Edge) (next : Layout) (items : List Flip) (room : ℕ) (v : FlipTrack) → seen start end flips room ≡ v → 0 < v.spare → IsFlip end.points end.edges e g next.edges → items ≡ flips ++ flip e g ∷ []
      → IsAppended v (seen start next items (room - 1)) e g
  is_appended g next items room v is spare G ei =
      let s : 0 < room = subst (λ (w : FlipTrack). 0 < w.spare) (sym is) spare in
      subst (λ (w : FlipTrack). IsAppended w (seen start next items (room - 1)) e g) is
      (record { points = refl; start = refl; flips = ei; end = subst (λ ps. IsFlip ps end.edges e g next.edges) k.points G; spare = omega arith })

  pub not_cancelled : (x : Flip) (room : ℕ) (v : FlipTrack) → seen start end flips room ≡ v → x.edge ≡ e → FlipsTo v.points v.end e x.image → undone_by flips x ≡ None → (f : Edge) → FlipsTo v.points v.end e f → IsNotCancelled v v e f
  not_cancelled x room v is h X u f F =
      let same = made_is x f h (seen_flips room v is x.image X) (seen_flips room v is f F) in
      subst (λ (w : FlipTrack). IsNotCancelled w w e f) is (record { apart = subst (λ y. undone_by flips y ≡ None) same u; unchanged = refl })

  pub is_cancelled : (x : Flip) (g : Edge) (next : Layout) (items : List Flip) (place room : ℕ) (v : FlipTrack) → seen start end flips room ≡ v → x.edge ≡ e → FlipsTo v.points v.end e x.image → undone_by flips x ≡ Some place
      → IsFlip end.points end.edges e g next.edges → items ≡ remove flips place → (f : Edge) → FlipsTo v.points v.end e f → IsCancelled v (seen start next items room) e f
  is_cancelled x g next items place room v is h X u G ei f F =
      let F' = seen_flips room v is f F in
      let same = made_is x f h (seen_flips room v is x.image X) F' in
      subst (λ (w : FlipTrack). IsCancelled w (seen start next items room) e f) is
      (record {
        place = place;
        undone = subst (λ y. undone_by flips y ≡ Some place) same u;
        points = refl;
        start = refl;
        flips = ei;
        end = subst (λ ps. IsFlip ps end.edges e f next.edges) k.points (same_image f g next F' G);
        spare = omega arith;
      })

  pub still_kept : (x : Flip) (g : Edge) (next : Layout) (items : List Flip) (ns : List ℕ) (place room : ℕ) (v : FlipTrack) → seen start end flips room ≡ v → x.edge ≡ e → FlipsTo v.points v.end e x.image → undone_by flips x ≡ Some place
      → next.points ≡ end.points → IsFlip end.points end.edges e g next.edges → items ≡ remove flips place → ns ≡ remove numbers place → AreKept start next items ns
  still_kept x g next items ns place room v is h X u p G ei es =
      let X' = seen_flips room v is x.image X in
      kept_cancel start end next flips items numbers ns e x.image place k p (same_image x.image g next X' G) (subst (λ y. undone_by flips y ≡ Some place) (made_is x x.image h X' X') u) ei es

  -- ---- the greatest number once e was followed
  pub rounds_less : (x : Flip) (place room r : ℕ) (v : FlipTrack) → seen start end flips room ≡ v → x.edge ≡ e → FlipsTo v.points v.end e x.image → undone_by flips x ≡ Some place → r ≡ greatest (remove numbers place)
      → (f : Edge) → FlipsTo v.points v.end e f → r ≡ round_count (follow v.flips (flip e f))
  rounds_less x place room r v is h X u er f F =
      let F' = seen_flips room v is f F in
      let same = made_is x f h (seen_flips room v is x.image X) F' in
      let un : undone_by flips (flip e f) ≡ Some place = subst (λ y. undone_by flips y ≡ Some place) same u in
      let lead = flips_lead end.points end.edges (flip e f) (end_placed start end flips numbers k) (end_triangulation start end flips numbers k) F' in
      let next : Layout = record { points = end.points; edges = lead.0 } in
      let c = cancels start end next flips numbers e f place k lead.1 un in
      subst (λ (w : FlipTrack). r ≡ round_count (follow w.flips (flip e f))) is
      (er ∙ ap (λ ns. greatest (remove ns place)) k.numbered ∙ ap greatest (sym c.numbers) ∙ ap (λ o. round_count (elim o [ Some i ↦ remove flips i | None ↦ flips ++ flip e f ∷ [] ])) (sym un))

  pub rounds_more : (x : Flip) (room r : ℕ) (v : FlipTrack) → seen start end flips room ≡ v → x.edge ≡ e → FlipsTo v.points v.end e x.image → undone_by flips x ≡ None → r ≡ max (greatest numbers) (suc (rounds_before (last_numbers flips) x))
      → (f : Edge) → FlipsTo v.points v.end e f → r ≡ round_count (follow v.flips (flip e f))
  rounds_more x room r v is h X u er f F =
      let same = made_is x f h (seen_flips room v is x.image X) (seen_flips room v is f F) in
      let un : undone_by flips (flip e f) ≡ None = subst (λ y. undone_by flips y ≡ None) same u in
      subst (λ (w : FlipTrack). r ≡ round_count (follow w.flips (flip e f))) is
      (er ∙ ap₂ (λ ns y. max (greatest ns) (suc (rounds_before (last_numbers flips) y))) k.numbered same ∙ sym (greatest_last flips (flip e f))
      ∙ ap (λ o. round_count (elim o [ Some i ↦ remove flips i | None ↦ flips ++ flip e f ∷ [] ])) (sym un))
