-- What following edges one after the other makes of a track, before it is done.
use Rattle.std.specs.Prelude.{◌≡◌, ℕ, Bool, true, false, Some, None, List, [], ◌∷◌}
use Rattle.geo_orient.specs.declared.Point.{Point}
use Rattle.edge_table.specs.declared.edge.Edge.{Edge}
use Rattle.tri_theory.specs.Triangulations.{IsTriangulation}
use Rattle.tri_check.specs.Layouts.{IsTriangulated}
use Rattle.flip_list_law.specs.declared.Flip.{Flip}
use Rattle.flip_list_law.specs.FlipLists.{round_count, follow}
use Rattle.round_pack.specs.Tracks.{FlipTrack, flip}
use Rattle.plan_law.specs.Images.{image_of, after_flip}
use Rattle.plan_core.specs.Steps.{IsLed}

-- the edges flip in turn, each where the earlier ones led
abbrev pub all_flip : List Point → List Edge → List Edge → Bool
all_flip points end [] = true
all_flip points end (e ∷ es) = elim (image_of points end e) [ Some f ↦ all_flip points (after_flip end (flip e f)) es | None ↦ false ]

-- a list once it has followed edges in turn, up to the first that doesn't flip
abbrev pub flips_after : List Point → List Edge → List Flip → List Edge → List Flip
flips_after points end flips [] = flips
flips_after points end flips (e ∷ es) = elim (image_of points end e) [ Some f ↦ flips_after points (after_flip end (flip e f)) (follow flips (flip e f)) es | None ↦ flips ]

-- the rounds of a track once it has followed edges
abbrev pub rounds_then : List Edge → FlipTrack → ℕ
rounds_then es track = round_count (flips_after track.points track.end track.flips es)

-- the track's flips lead between triangulations, and the edges flip in turn from its end
pub record CanFollow (es : List Edge) (track : FlipTrack) : Type 0 where
  pub start : IsTriangulation track.points track.start
  pub led : IsLed track
  pub end : IsTriangulated track.points track.end
  pub flips : all_flip track.points track.end es ≡ true
