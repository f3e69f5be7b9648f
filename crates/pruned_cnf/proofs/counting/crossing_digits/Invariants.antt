use Rattle.std.proofs.Common.{◌≡◌, ◌≤◌, map, take}
use Rattle.std.specs.List.{All}
use Rattle.tri_theory.specs.Crossings.{crossings}
use Rattle.crossing_law.specs.Digits.{digits}
use Rattle.pruned_cnf.proofs.counting.crossing_digits.Given as goal

abbrev pub invariant-loop-n : goal.invariant-loop-n
invariant-loop-n l = (l.found.items ≡ map (λ e. digits (crossings l.triang.points l.triang.edges e)) (take l.n l.lists.segments)) × All (λ d. d ≤ 32) l.found.items
