use Rattle.std.proofs.Common.{◌≡◌, ◌*◌, ◌≤◌}
use Rattle.pruned_cnf.specs.Numbered.{places_before}
use Rattle.pruned_cnf.proofs.decoding.count_places.Given as goal

abbrev pub invariant-loop-t : goal.invariant-loop-t
invariant-loop-t l = (l.live ≡ places_before l.query l.t) × (l.live ≤ l.t * 4096)
