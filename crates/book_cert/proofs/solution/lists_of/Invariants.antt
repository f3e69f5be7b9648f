use Rattle.std.proofs.Common.{◌≡◌, map, take}
use Rattle.flip_list_law.specs.FlipLists.{grouped}
use Rattle.book_cert.proofs.solution.lists_of.Given as goal

abbrev pub invariant-loop-t : goal.invariant-loop-t
invariant-loop-t l = l.lists ≡ map grouped (take l.t l.plan.plan.lists)
