use Rattle.std.proofs.Common.{arith}
use Rattle.claims.proofs.Kept.{starts, splits}
use Rattle.claims.proofs.counter.Claims.make.Goals as goal

pub of_words-requires : goal.of_words-requires
of_words-requires c = starts _ c.requires.seats.0 c.requires.seats.1 c.requires.turns

pub split_seat-seat-requires : goal.split_seat-seat-requires
split_seat-seat-requires c = let made = c.in_ok-table.ensures in let l = c.loop.invariant in let l₁ = l.1 in (
  l.4,
  (let w = made.0 in omega arith),
  splits _ _ _ (let t = c.loop-test.true in omega arith) l.2,
)
