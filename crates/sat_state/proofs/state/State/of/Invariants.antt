use Rattle.std.proofs.Common.{◌≡◌, [], take}
use Rattle.sat_state.proofs.state.State.of.Given as goal

abbrev pub invariant-loop-i : goal.invariant-loop-i
invariant-loop-i l = (l.made ≡ record { variables = l.cnf.variables; clauses = take l.i l.cnf.clauses; trail = []; level = 0 })
