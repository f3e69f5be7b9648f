use Rattle.std.proofs.Common.{◌≡◌, take}
use Rattle.sat_state.specs.Tables.{slots, enlisted}
use Rattle.sat_state.proofs.uses.enlist.Given as goal

abbrev pub invariant-loop-i : goal.invariant-loop-i
invariant-loop-i l = (l.uses ≡ enlisted l.fn.uses (take l.i (slots l.clause)) l.number)
