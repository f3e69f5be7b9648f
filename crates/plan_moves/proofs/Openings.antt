-- The tracks of a start are those of a plan.
use Rattle.std.proofs.Common.{List, [], ◌∷◌}
use Rattle.std.specs.List.{AllZip}
use Rattle.geo_orient.specs.declared.Point.{Point}
use Rattle.edge_table.specs.declared.edge.Edge.{Edge}
use Rattle.round_pack.specs.Tracks.{FlipTrack}
use Rattle.lawson_start.specs.Starts.{IsRunTrack}
use Rattle.plan_core.specs.HeldPlans.{LeadsTo}

pub tracks_lead : (points : List Point) (centre : List Edge) (inputs : List (List Edge)) (tracks : List FlipTrack) → AllZip (IsRunTrack points centre) inputs tracks → AllZip (LeadsTo points centre) inputs tracks
tracks_lead points centre [] [] are = tt
tracks_lead points centre [] (track ∷ tracks) are = absurd are
tracks_lead points centre (input ∷ inputs) [] are = absurd are
tracks_lead points centre (input ∷ inputs) (track ∷ tracks) are =
    (record { of_points = are.0.of_points; from = are.0.from; to = are.0.to }, tracks_lead points centre inputs tracks are.1)
