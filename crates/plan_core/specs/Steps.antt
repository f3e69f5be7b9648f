-- What the steps of following, of making room and of flipping in turn do to tracks.
use Rattle.std.specs.Prelude.{◌≡◌, ℕ, suc, ◌≤◌, Some, None, Option, List, ◌++◌}
use Rattle.geo_orient.specs.declared.Point.{Point}
use Rattle.edge_table.specs.declared.edge.Edge.{Edge}
use Rattle.tri_theory.specs.Flips.{IsFlip}
use Rattle.flip_list_law.specs.declared.Flip.{Flip}
use Rattle.flip_list_law.specs.FlipLists.{IsFlipList, follow}
use Rattle.round_pack.specs.Tracks.{FlipTrack, flip}
use Rattle.tri_check.specs.Problems.{Problem}
use Rattle.bound_law.specs.Bounds.{input_at}
use Rattle.replay.specs.Independent.{AreRoundsOf}
use Rattle.plan_law.specs.Images.{after_flips, flips_in_turn}
use Rattle.plan_law.specs.Plans.{Plan, swapped, with_list}
use Rattle.plan_core.specs.HeldPlans.{LeadsTo}

-- the track's flips lead from its start to its end
abbrev pub IsLed : FlipTrack → Type 0
IsLed track = IsFlipList track.points track.start track.flips track.end

-- e is followed: its flip, with the image f, leads on, and takes out the one that it undoes or is appended
pub record IsFollowed (e : Edge) (old new : FlipTrack) : Type 0 where
  pub image : Edge
  pub of_points : new.points ≡ old.points
  pub from : new.start ≡ old.start
  pub flips : new.flips ≡ follow old.flips (flip e image)
  pub leads : IsFlip old.points old.end e image new.end
  pub spare : old.spare ≤ suc new.spare

-- nothing changes but that there may be more room
pub record IsRoomier (old new : FlipTrack) : Type 0 where
  pub of_points : new.points ≡ old.points
  pub from : new.start ≡ old.start
  pub flips : new.flips ≡ old.flips
  pub to : new.end ≡ old.end
  pub spare : old.spare ≤ new.spare

-- the flips that there are, and then others, if there are such
abbrev pub joined : List Flip → Option (List Flip) → Option (List Flip)
joined flips (Some others) = Some (flips ++ others)
joined flips None = None

-- these edges flip in turn from the end, and their flips are appended
pub record IsFlippedOn (es : List Edge) (old new : FlipTrack) : Type 0 where
  pub others : List Flip
  pub found : flips_in_turn old.points old.end es ≡ Some others
  pub of_points : new.points ≡ old.points
  pub from : new.start ≡ old.start
  pub flips : new.flips ≡ old.flips ++ others
  pub to : new.end ≡ after_flips old.end others

-- the track of the flips of edges in turn
pub record IsTrackOf (points : List Point) (input es : List Edge) (track : FlipTrack) : Type 0 where
  pub of_points : track.points ≡ points
  pub from : track.start ≡ input
  pub flips : flips_in_turn points input es ≡ Some track.flips
  pub to : track.end ≡ after_flips input track.flips

-- rounds lead from the input with the place t to the centre, and this is the track of their flips
pub record IsTrackFor (problem : Problem) (plan : Plan) (t : ℕ) (rounds : List (List Edge)) (track : FlipTrack) : Type 0 where
  pub leads : AreRoundsOf problem.points (input_at problem.inputs t) rounds plan.centre
  pub swapped : swapped problem.points problem.inputs plan t rounds ≡ Some (with_list plan t track.flips)
  pub is_track : LeadsTo problem.points plan.centre (input_at problem.inputs t) track
