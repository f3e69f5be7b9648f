-- One flip more in a track, in both of its cases.
use Rattle.std.proofs.Common.{◌≡◌, ◌∙◌, Some, None, List, [], ◌∷◌, ◌++◌, remove, sym, ap, subst, arith}
use Rattle.edge_table.specs.declared.edge.Edge.{Edge}
use Rattle.flip_list_law.specs.declared.Flip.{Flip}
use Rattle.flip_list_law.specs.FlipLists.{undone_by}
use Rattle.round_pack.specs.Tracks.{FlipTrack, flip}
use Rattle.round_pack.specs.Follows.{IsAppended, IsCancelled}
use Rattle.plan_core.specs.Steps.{IsFollowed}

pub cancelled : (old new : FlipTrack) (e f : Edge) → IsCancelled old new e f → IsFollowed e old new
cancelled old new e f C = record {
  image = f;
  of_points = C.points;
  from = C.start;
  flips = C.flips ∙ sym (ap (λ r. elim r as (λ _. List Flip) [ Some place ↦ remove old.flips place | None ↦ old.flips ++ flip e f ∷ [] ]) C.undone);
  leads = C.end;
  spare = (let h = C.spare in omega arith);
}

pub appended : (old mid new : FlipTrack) (e f : Edge) → mid ≡ old → undone_by old.flips (flip e f) ≡ None → IsAppended mid new e f → IsFollowed e old new
appended old mid new e f m u A = from (subst (λ t. IsAppended t new e f) m A)
  where
    from : IsAppended old new e f → IsFollowed e old new
    from B = record {
      image = f;
      of_points = B.points;
      from = B.start;
      flips = B.flips ∙ sym (ap (λ r. elim r as (λ _. List Flip) [ Some place ↦ remove old.flips place | None ↦ old.flips ++ flip e f ∷ [] ]) u);
      leads = B.end;
      spare = (let h = B.spare in omega arith);
    }
