use Rattle.std.specs.Prelude.{All}
use Rattle.std.specs.BinaryHeap.{heap_items}
use Rattle.log_law.specs.Clauses.{IsVariable}
use Rattle.sat_search.specs.Choices.{ranked, AreRanked}
use Rattle.sat_search.proofs.order.ranks_of.Given as goal

abbrev pub invariant-loop-v : goal.invariant-loop-v
invariant-loop-v l = record {
  in_range : All (IsVariable l.vars) (ranked (heap_items l.ranks));
  each : AreRanked l.v l.waits (heap_items l.ranks);
}
