use Rattle.std.proofs.Common.{◌≡◌, ℕ, ◌<◌, [], All, subst, sym, ap, ◌∙◌}
use Rattle.std.proofs.lemmas.List.Elements.{All-nil}
use Rattle.claims.specs.Draws.{CounterView, SeatView}
use Rattle.seat_list.proofs.Ends.{all_last}
use Rattle.claims.proofs.tests.two_turns_are_drawn_and_the_third_draw_is_late.Goals as goal

pub loop-init : goal.loop-init
loop-init g c = let P : SeatView → Type 0 = λ s. (s.table ≡ c.in_ok-claims.claims.table) × (s.numbers ≡ []) in
    let own = all_last P _ _ (subst (All P) c.in-Some.ensures.some c.in_ok-claims.ensures.seats) in
    let Q : ℕ → Type 0 = λ n. n < c.claims.inside.table.shared.key.turns in (own.0 ∙ sym (ap (λ (v : CounterView). v.table) c.claims.view_is), subst (All Q) (sym own.1) (All-nil Q))
