use Rattle.std.proofs.Common.{take}
use Rattle.sat_search.proofs.Resolving.{AreAdded}
use Rattle.sat_search.proofs.resolution.add_places.Given as goal

abbrev pub invariant-loop-i : goal.invariant-loop-i
invariant-loop-i l = AreAdded l.state (take l.i l.clause) l.before l.initial.pending.keys l.pending.keys
