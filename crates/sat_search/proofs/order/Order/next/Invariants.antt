use Rattle.std.specs.BinaryHeap.{heap_items, heap_len}
use Rattle.log_law.specs.Trails.{literals}
use Rattle.sat_search.specs.Choices.{IsQueue, IsReady}
use Rattle.sat_search.proofs.order.Order.next.Given as goal

abbrev pub invariant-loop-rank : goal.invariant-loop-rank
invariant-loop-rank l = record {
  queue : IsQueue (record { variables = l.self-inside.vars; waits = l.self-inside.waits.items }) l.self-inside.activity.items l.self-inside.phases.items (heap_items l.self-inside.waiting);
  ready : IsReady l.state.variables (literals l.state.trail) (record { variables = l.self-inside.vars; waits = l.self-inside.waits.items });
}

abbrev pub decreases-loop-rank : goal.decreases-loop-rank
decreases-loop-rank l = heap_len l.self-inside.waiting
