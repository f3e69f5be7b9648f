-- What a list has that begins with all that some passes have seen.
use Rattle.std.proofs.Common.{ℕ, ◌<◌, ◌≤◌, List, [], ◌∷◌, ◌++◌, subst, arith, ⊎_elim}
use Rattle.std.specs.Prelude.{Contains}
use mathlib.Core.List.{IsPrefix}
use Rattle.std.proofs.lemmas.Bool.{cases_lt}
use Rattle.std.proofs.lemmas.List.Elements.{Contains-append_left}
use Rattle.std.proofs.lemmas.List.Sums.{sum_by_push}
use Rattle.vcell.specs.Passes.{PassView}
use Rattle.claims.specs.Draws.{SeatView, times}
use Rattle.seat_list.proofs.Ends.{all_front, all_last}
use Rattle.shared_list.specs.Turns.{HasTurnsOf, HasTurns}

pub kept_in : (xs ys : List ℕ) (x : ℕ) → IsPrefix xs ys → Contains xs x → Contains ys x
kept_in xs ys x p h = subst (λ (l : List ℕ). Contains l x) p.1 (Contains-append_left xs p.0 x h)

-- one more worker
pub gathered : (turns : ℕ) (seats : List SeatView) (passes : List (PassView ℕ ℕ)) (seat : SeatView) (pass : PassView ℕ ℕ)
    → HasTurns turns seats passes → HasTurnsOf turns seat.numbers pass.seen → HasTurns turns (seats ++ seat ∷ []) (passes ++ pass ∷ [])
gathered turns seats passes seat pass others own list all x lt some = let P : PassView ℕ ℕ → Type 0 = λ p. IsPrefix p.seen list in ⊎_elim
    (λ (l : 0 < times x seat.numbers). kept_in pass.seen list x (all_last P passes pass all) (own x lt l))
    (λ (l : times x seat.numbers ≤ 0). others list (all_front P passes pass all) x lt (let s = sum_by_push (λ (s : SeatView). times x s.numbers) seats seat in omega arith))
    (cases_lt 0 (times x seat.numbers))
