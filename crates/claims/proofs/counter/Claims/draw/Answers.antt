use Rattle.std.proofs.Common.{arith, ◌<◌, ◌∙◌, sym, ap, subst, All}
use Rattle.claims.proofs.Kept.{draws}
use Rattle.claims.proofs.Numbers.{late-none}
use Rattle.claims.specs.Draws.{CounterView, SeatView}
use Rattle.claims.proofs.counter.Claims.draw.Goals as goal

pub fetch_add-number-requires : goal.fetch_add-number-requires
fetch_add-number-requires c = let P : CounterView × SeatView → Type 0 = λ z. All (λ n. n < z.0.turns) z.1.numbers in (
  ap (λ (v : SeatView). v.table) c.seat.view_is ∙ (c.requires.own ∙ sym (ap (λ (v : CounterView). v.table) c.self.view_is)),
  (let e = c.self.invariant.0 in omega arith),
  draws _ _ _ _ (let e = c.seat.invariant.0 in omega arith) (late-none _ _ (subst P (λ i. (sym c.self.view_is i, sym c.seat.view_is i)) c.requires.never_none)),
)
