use Rattle.std.proofs.Common.{◌≡◌, pos, map, take}
use Rattle.match_bound.proofs.lists.ints_of.Given as goal

abbrev pub invariant-loop-n : goal.invariant-loop-n
invariant-loop-n l = (l.made ≡ map pos (take l.n-index l.numbers))
