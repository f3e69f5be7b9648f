-- Edges that flip in turn, one after the other.
use Rattle.std.proofs.Common.{◌≡◌, ◌∙◌, ℕ, suc, ◌+◌, ◌<◌, ◌≤◌, Option, Some, None, List, [], ◌∷◌, ◌++◌, length, get_or, drop, refl, sym, ap, subst, arith}
use Rattle.std.proofs.lemmas.List.{append-nil, append_assoc, drop_all}
use Rattle.std.proofs.Math.Seq.{drop-cons}
use Rattle.edge_table.specs.declared.edge.Edge.{Edge}
use Rattle.tri_theory.specs.Flips.{Flips, IsFlip}
use Rattle.flip_list_law.specs.declared.Flip.{Flip}
use Rattle.round_pack.specs.Tracks.{FlipTrack, flip}
use Rattle.round_pack.specs.Follows.{IsAppended}
use Rattle.plan_law.specs.Images.{image_of, after_flip, after_flips, flips_in_turn, put_first}
use Rattle.plan_law.proofs.Proved.{images_are_found, flips_lead_on}
use Rattle.tri_check.specs.Layouts.{IsTriangulated}
use Rattle.tri_theory.proofs.Proved.{flips_keep_triangulations}
use Rattle.plan_core.specs.Steps.{joined, IsFlippedOn}

-- so many of the edges have flipped in turn, and the others flip in turn from the end
pub record IsPartway (es : List Edge) (i : ℕ) (old new : FlipTrack) : Type 0 where
  pub flips_so_far : List Flip
  pub of_points : new.points ≡ old.points
  pub from : new.start ≡ old.start
  pub flips : new.flips ≡ old.flips ++ flips_so_far
  pub to : new.end ≡ after_flips old.end flips_so_far
  pub found : joined flips_so_far (flips_in_turn old.points new.end (drop i es)) ≡ flips_in_turn old.points old.end es
  pub spare : new.spare + i ≡ old.spare
  pub triangulated : IsTriangulated old.points new.end

after_push : (edges : List Edge) (flips : List Flip) (fl : Flip) → after_flips edges (flips ++ fl ∷ []) ≡ after_flip (after_flips edges flips) fl
after_push edges [] fl = refl
after_push edges (f ∷ flips) fl = after_push (after_flip edges f) flips fl

joined_push : (flips : List Flip) (fl : Flip) (r : Option (List Flip)) → joined (flips ++ fl ∷ []) r ≡ joined flips (put_first fl r)
joined_push flips fl None = refl
joined_push flips fl (Some others) = ap Some (append_assoc flips (fl ∷ []) others)

pub turns_begin : (es : List Edge) (track : FlipTrack) → IsTriangulated track.points track.end → IsPartway es 0 track track
turns_begin es track I = record {
  flips_so_far = [];
  of_points = refl;
  from = refl;
  flips = sym (append-nil track.flips);
  to = refl;
  found = joined_none (flips_in_turn track.points track.end es);
  spare = omega arith;
  triangulated = I;
}
  where
    joined_none : (r : Option (List Flip)) → joined [] r ≡ r
    joined_none None = refl
    joined_none (Some others) = refl

module _ (es : List Edge) (i : ℕ) (old new : FlipTrack) (W : IsPartway es i old new) where
  next_ones : (e : Edge) → i < length es → e ≡ get_or es i e → drop i es ≡ e ∷ drop (i + 1) es
  next_ones e h k = drop-cons es i e h ∙ (ap (λ g. g ∷ drop (suc i) es) (sym k) ∙ ap (λ n. e ∷ drop n es) later)
    where
      later : suc i ≡ i + 1
      later = omega arith

  -- the next edge flips
  pub next_flips : (e : Edge) (others : List Flip) → i < length es → e ≡ get_or es i e → flips_in_turn old.points old.end es ≡ Some others → Flips new.points new.end e
  next_flips e others h k s = subst (λ ps. Flips ps new.end e) (sym W.of_points) (by_image (image_of old.points new.end e) refl)
    where
      found : joined W.flips_so_far (flips_in_turn old.points new.end (e ∷ drop (i + 1) es)) ≡ Some others
      found = ap (λ l. joined W.flips_so_far (flips_in_turn old.points new.end l)) (sym (next_ones e h k)) ∙ (W.found ∙ s)

      by_image : (r : Option Edge) → image_of old.points new.end e ≡ r → Flips old.points new.end e
      by_image (Some f) m = (f, (images_are_found old.points new.end e f W.triangulated.placed W.triangulated.triangulation).0 m)
      by_image None m = absurd (none (sym (ap (λ r. joined W.flips_so_far (elim r as (λ _. Option (List Flip)) [
        | Some f ↦ put_first (flip e f) (flips_in_turn old.points (after_flip new.end (flip e f)) (drop (i + 1) es))
        | None ↦ None
      ])) m) ∙ found))
        where
          none : None ≡ Some others → ⊥
          none z = cc

  module _ (next : FlipTrack) (e f : Edge) (h : i < length es) (k : e ≡ get_or es i e) (A : IsAppended new next e f) where
    here : IsFlip old.points new.end e f next.end
    here = subst (λ ps. IsFlip ps new.end e f next.end) W.of_points A.end

    leads : next.end ≡ after_flip new.end (flip e f)
    leads = ((flips_lead_on old.points new.end next.end (flip e f) W.triangulated.placed W.triangulated.triangulation).0 here).1

    goes_on : flips_in_turn old.points new.end (e ∷ drop (i + 1) es) ≡ put_first (flip e f) (flips_in_turn old.points next.end (drop (i + 1) es))
    goes_on =
        ap (λ r. elim r as (λ _. Option (List Flip)) [
          | Some g ↦ put_first (flip e g) (flips_in_turn old.points (after_flip new.end (flip e g)) (drop (i + 1) es))
          | None ↦ None
        ]) ((images_are_found old.points new.end e f W.triangulated.placed W.triangulated.triangulation).1 here.flips)
        ∙ ap (λ t. put_first (flip e f) (flips_in_turn old.points t (drop (i + 1) es))) (sym leads)

    pub turns_on : IsPartway es (i + 1) old next
    turns_on = record {
      flips_so_far = W.flips_so_far ++ flip e f ∷ [];
      of_points = A.points ∙ W.of_points;
      from = A.start ∙ W.from;
      flips = A.flips ∙ (ap (λ l. l ++ flip e f ∷ []) W.flips ∙ append_assoc old.flips W.flips_so_far (flip e f ∷ []));
      to = leads ∙ (ap (λ t. after_flip t (flip e f)) W.to ∙ sym (after_push old.end W.flips_so_far (flip e f)));
      found =
          joined_push W.flips_so_far (flip e f) (flips_in_turn old.points next.end (drop (i + 1) es))
          ∙ (ap (joined W.flips_so_far) (sym goes_on) ∙ (ap (λ l. joined W.flips_so_far (flips_in_turn old.points new.end l)) (sym (next_ones e h k)) ∙ W.found));
      spare = (let a = A.spare in let b = W.spare in omega arith);
      triangulated = record {
        few = W.triangulated.few;
        in_reach = W.triangulated.in_reach;
        placed = W.triangulated.placed;
        triangulation = flips_keep_triangulations old.points new.end next.end e f W.triangulated.placed W.triangulated.triangulation here;
      };
    }

  -- all of them have flipped
  pub turns_end : length es ≤ i → IsFlippedOn es old new
  turns_end h = record {
    others = W.flips_so_far;
    found = sym W.found ∙ (ap (λ l. joined W.flips_so_far (flips_in_turn old.points new.end l)) (drop_all i es h) ∙ ap Some (append-nil W.flips_so_far));
    of_points = W.of_points;
    from = W.from;
    flips = W.flips;
    to = W.to;
  }
