use Rattle.sat_search.specs.Choices.{KeepsWaiting}
use Rattle.sat_search.proofs.order.Order.raise.Given as goal

abbrev pub invariant-loop-i : goal.invariant-loop-i
invariant-loop-i l = KeepsWaiting l.initial.self l.self
