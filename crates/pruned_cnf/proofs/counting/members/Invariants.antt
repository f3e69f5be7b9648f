use Rattle.std.proofs.Common.{◌≡◌, map, take}
use Rattle.edge_table.specs.Edges.{is_member}
use Rattle.pruned_cnf.proofs.counting.members.Given as goal

abbrev pub invariant-loop-n : goal.invariant-loop-n
invariant-loop-n l = (l.found.items ≡ map (is_member l.triang.edges) (take l.n l.lists.segments))
