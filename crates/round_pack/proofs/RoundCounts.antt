-- What the counts of a track's rounds say of its flips.
use Rattle.std.proofs.Common.{◌≡◌, ◌∙◌, ℕ, zero, suc, ◌+◌, ◌-◌, ◌<◌, ◌≤◌, Option, Some, None, List, [], ◌∷◌, length, get_or, remove, sym, ap, subst, arith}
use Rattle.edge_table.specs.declared.edge.Edge.{Edge}
use Rattle.tri_theory.specs.Flips.{FlipsTo}
use Rattle.tri_check.specs.Layouts.{Layout}
use Rattle.flip_list_law.specs.declared.Flip.{Flip}
use Rattle.flip_list_law.specs.FlipLists.{Triangle, rounds_before, last_numbers, last_maker, one_side, other_side, round_numbers, greatest, undone_by}
use Rattle.flip_list_law.proofs.FlipLists.{number_at, number_of_last}
use Rattle.flip_list_law.proofs.Proved.{flips_lead}
use Rattle.round_pack.specs.Counts.{AreCounted, AreFilled, IsRest}
use Rattle.round_pack.specs.States.{AreKept}
use Rattle.round_pack.specs.Tracks.{FlipTrack, flip}
use Rattle.round_pack.proofs.Counts.{all_filled, rest_of}
use Rattle.round_pack.proofs.Ends.{end_placed, end_triangulation, cancels}
use Rattle.round_pack.proofs.Groups.{number_range}
use Rattle.round_pack.proofs.Seen.{seen, made_is, seen_flips}

-- the next number is at most one above the greatest
below_greatest : (ns : List ℕ) (i : ℕ) → get_or ns i 0 ≤ greatest ns
below_greatest [] i = omega arith
below_greatest (n ∷ ns) zero = omega arith
below_greatest (n ∷ ns) (suc i) = let h = below_greatest ns i in omega arith

pub next_within : (flips : List Flip) (numbers counts : List ℕ) (x : Flip) → numbers ≡ round_numbers flips → AreCounted counts numbers → suc (rounds_before (last_numbers flips) x) ≤ length counts + 1
next_within flips numbers counts x e C = let a = C.as_many ∙ ap greatest e in let f = below (one_side x) in let g = below (other_side x) in omega arith
  where
    at_place : (o : Option ℕ) → number_at (round_numbers flips) 0 o ≤ greatest (round_numbers flips)
    at_place None = omega arith
    at_place (Some i) = below_greatest (round_numbers flips) i

    below : (t : Triangle) → last_numbers flips t ≤ greatest (round_numbers flips)
    below t = let h = number_of_last flips t in let g = at_place (last_maker flips t) in omega arith

module _ (start end : Layout) (flips : List Flip) (numbers : List ℕ) (k : AreKept start end flips numbers) where
  -- the number at a place has a count
  pub counted_at : (counts : List ℕ) → AreCounted counts numbers → (place x : ℕ) → place < length flips → x ≡ get_or numbers place 0 → (0 < x) × (x ≤ length counts) × (0 < get_or counts (x - 1) 0)
  counted_at counts C place x l e =
      let r = number_range flips numbers place k.numbered l in
      let within = r.0 in let low = r.1 in let high = r.2 in
      let a = C.as_many in
      let p : 0 < x = omega arith in
      let q : x ≤ length counts = omega arith in
      (p, q, C.filled (x - 1) (omega arith))

  pub rest_at : (place x : ℕ) → place < length flips → x ≡ get_or numbers place 0 → IsRest numbers (remove numbers place) x
  rest_at place x l e = let r = number_range flips numbers place k.numbered l in rest_of numbers place x r.0 e

  -- without the flip that e undoes no round is empty either
  pub rest_filled : (e : Edge) (x : Flip) (place room : ℕ) (v : FlipTrack) → seen start end flips room ≡ v → x.edge ≡ e → FlipsTo v.points v.end e x.image → undone_by flips x ≡ Some place → AreFilled (remove numbers place)
  rest_filled e x place room v is h X u =
      let F = seen_flips start end flips numbers k e room v is x.image X in
      let same = made_is start end flips numbers k e x x.image h F F in
      let un : undone_by flips (flip e x.image) ≡ Some place = subst (λ y. undone_by flips y ≡ Some place) same u in
      let lead = flips_lead end.points end.edges (flip e x.image) (end_placed start end flips numbers k) (end_triangulation start end flips numbers k) F in
      let next : Layout = record { points = end.points; edges = lead.0 } in
      let c = cancels start end next flips numbers e x.image place k lead.1 un in
      subst AreFilled (sym (ap (λ ns. remove ns place) k.numbered ∙ sym c.numbers)) (all_filled (remove flips place))
