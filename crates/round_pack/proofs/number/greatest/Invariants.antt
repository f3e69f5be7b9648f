use Rattle.std.proofs.Common.{◌≡◌, max, drop}
use Rattle.flip_list_law.specs.FlipLists.{greatest}
use Rattle.round_pack.proofs.number.greatest.Given as goal

abbrev pub invariant-loop-n : goal.invariant-loop-n
invariant-loop-n l = max l.most (greatest (drop l.n-index l.numbers)) ≡ greatest l.numbers
