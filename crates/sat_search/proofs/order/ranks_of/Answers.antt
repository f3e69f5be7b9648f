use Rattle.std.proofs.Common.{refl, arith}
use Rattle.std.specs.BinaryHeap.{heap_items}
use Rattle.sat_search.proofs.Waiting.{in_range_more, are_ranked_more, are_ranked_still}
use Rattle.sat_search.proofs.order.ranks_of.Goals as goal
use Rattle.sat_search.proofs.order.ranks_of.Goals.{then-waits-var+in_ok-push, else-waits-var}

pub loop-v-preserved : goal.loop-v-preserved
loop-v-preserved c =
    elim c.if-waits-var.branch [
      | then-waits-var+in_ok-push w ↦
          rw w.ranks-is (record {
            in_range = in_range_more _ (heap_items c.loop-v.ranks) (heap_items w.push.new.self) w.in_ok-push.ensures.permutation c.args.vars (omega arith, omega arith) c.loop-v.invariant.in_range;
            each = are_ranked_more c.loop-v.v c.args.waits.now _ (heap_items c.loop-v.ranks) (heap_items w.push.new.self) w.in_ok-push.ensures.permutation refl c.loop-v.invariant.each;
          })
      | else-waits-var w ↦
          rw w.ranks-is (record {
            in_range = c.loop-v.invariant.in_range;
            each = are_ranked_still c.loop-v.v c.args.waits.now (heap_items c.loop-v.ranks) w.if-waits-var.false c.loop-v.invariant.each;
          })
    ]
