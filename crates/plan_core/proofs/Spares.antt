-- The least of some numbers.
use Rattle.std.proofs.Common.{ℕ, ◌+◌, ◌<◌, ◌≤◌, List, [], ◌∷◌, length, All, arith}
use Rattle.std.specs.List.{AllZip}
use Rattle.std.proofs.lemmas.List.Elements.{All-nil, All-cons, All-head, All-tail}
use Rattle.round_pack.specs.Tracks.{FlipTrack}
use Rattle.plan_core.specs.HeldPlans.{least_spare}

-- it isn't above any of them
pub least_below : (k : ℕ) (tracks : List FlipTrack) → k ≤ least_spare tracks → All (λ (track : FlipTrack). k ≤ track.spare) tracks
least_below k [] h = All-nil (λ (track : FlipTrack). k ≤ track.spare)
least_below k (t ∷ []) h = All-cons (λ (track : FlipTrack). k ≤ track.spare) t [] h (All-nil (λ (track : FlipTrack). k ≤ track.spare))
least_below k (t ∷ u ∷ tracks) h = All-cons (λ (track : FlipTrack). k ≤ track.spare) t (u ∷ tracks) (omega arith) (least_below k (u ∷ tracks) (omega arith))

-- a number that is above none of them isn't above it
pub least_above : (k : ℕ) (tracks : List FlipTrack) → 0 < length tracks → All (λ (track : FlipTrack). k ≤ track.spare) tracks → k ≤ least_spare tracks
least_above k [] l h = absurd (omega arith)
least_above k (t ∷ []) l h = All-head (λ (track : FlipTrack). k ≤ track.spare) t [] h
least_above k (t ∷ u ∷ tracks) l h =
    let a = All-head (λ (track : FlipTrack). k ≤ track.spare) t (u ∷ tracks) h in
    let b = least_above k (u ∷ tracks) (omega arith) (All-tail (λ (track : FlipTrack). k ≤ track.spare) t (u ∷ tracks) h) in
    omega arith

-- where each falls by at most d, so does the least
pub least_falls : (d : ℕ) (old new : List FlipTrack) → AllZip (λ (a b : FlipTrack). a.spare ≤ b.spare + d) old new → least_spare old ≤ least_spare new + d
least_falls d [] [] z = omega arith
least_falls d [] (b ∷ new) z = absurd z
least_falls d (a ∷ old) [] z = absurd z
least_falls d (a ∷ []) (b ∷ []) z = z.0
least_falls d (a ∷ []) (b ∷ c ∷ new) z = absurd z.1
least_falls d (a ∷ c ∷ old) (b ∷ []) z = absurd z.1
least_falls d (a ∷ c ∷ old) (b ∷ e ∷ new) z =
    let h = z.0 in
    let k = least_falls d (c ∷ old) (e ∷ new) z.1 in
    omega arith
