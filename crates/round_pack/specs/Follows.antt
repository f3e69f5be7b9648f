-- What following one more flip makes of a track.
use Rattle.std.specs.Prelude.{◌≡◌, ℕ, ◌≤◌, suc, Some, None, [], ◌∷◌, ◌++◌, remove}
use Rattle.edge_table.specs.declared.edge.Edge.{Edge}
use Rattle.tri_theory.specs.Flips.{IsFlip}
use Rattle.flip_list_law.specs.FlipLists.{undone_by}
use Rattle.round_pack.specs.Tracks.{FlipTrack, flip}

-- the flip of e, with the image f, is appended
pub record IsAppended (old new : FlipTrack) (e f : Edge) : Type 0 where
  pub points : new.points ≡ old.points
  pub start : new.start ≡ old.start
  pub flips : new.flips ≡ old.flips ++ flip e f ∷ []
  pub end : IsFlip old.points old.end e f new.end
  pub spare : suc new.spare ≡ old.spare

-- the one flip that last made both triangles at e, whose image would be f, is taken out
pub record IsCancelled (old new : FlipTrack) (e f : Edge) : Type 0 where
  pub place : ℕ
  pub undone : undone_by old.flips (flip e f) ≡ Some place
  pub points : new.points ≡ old.points
  pub start : new.start ≡ old.start
  pub flips : new.flips ≡ remove old.flips place
  pub end : IsFlip old.points old.end e f new.end
  pub spare : old.spare ≤ new.spare

-- no one flip last made both triangles at e, and nothing changes
pub record IsNotCancelled (old new : FlipTrack) (e f : Edge) : Type 0 where
  pub apart : undone_by old.flips (flip e f) ≡ None
  pub unchanged : new ≡ old
