use Rattle.std.proofs.Common.{◌≡◌, ◌+◌, ◌<◌, ◌++◌, length}
use Rattle.sat_search.specs.Lessons.{lines_from}
use Rattle.sat_search.proofs.search.log_of.Given as goal

abbrev pub invariant-loop-lits : goal.invariant-loop-lits
invariant-loop-lits l = record {
  lines : l.log ++ lines_from (l.id + 1) l.lits-iterator.a.rest.items l.lits-iterator.b.rest.items ≡ lines_from (length l.cnf.clauses + 1) l.initial.lits-iterator.a.rest.items l.initial.lits-iterator.b.rest.items;
  same : length l.lits-iterator.a.rest.items ≡ length l.lits-iterator.b.rest.items;
  few : l.id + length l.lits-iterator.a.rest.items < 4_000_000_000;
}
