use Rattle.std.proofs.Common.{◌<◌, take}
use Rattle.sat_search.proofs.Learning.{IsHighest, IsMet}
use Rattle.sat_search.proofs.lesson.level_below.Given as goal

abbrev pub invariant-loop-i : goal.invariant-loop-i
invariant-loop-i l = record {
  below : l.lower < l.state.level;
  highest : IsHighest l.state (take l.i l.clause) l.lower;
  met : IsMet l.state l.clause l.lower;
}
