-- Places in the lists of tracks.
use Rattle.std.proofs.Common.{◌≡◌, ◌∙◌, ℕ, List, Some, slice_get, ap}
use Rattle.std.specs.Option.{option_map}
use Rattle.std.proofs.lemmas.Option.{slice_get-map}
use Rattle.round_pack.specs.Tracks.{FlipTrack}
use Rattle.plan_core.specs.HeldPlans.{lists_of}

pub flips_there : (tracks : List FlipTrack) (t : ℕ) (track : FlipTrack) → slice_get tracks t ≡ Some track → slice_get (lists_of tracks) t ≡ Some track.flips
flips_there tracks t track h = slice_get-map (λ (track : FlipTrack). track.flips) tracks t ∙ ap (option_map (λ (track : FlipTrack). track.flips)) h
