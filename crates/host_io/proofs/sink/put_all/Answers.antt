use Rattle.std.proofs.Common.{arith}
use Rattle.std.proofs.lemmas.List.{take_rest}
use Rattle.host_io.proofs.Pieces.{takes_more}
use Rattle.host_io.proofs.sink.put_all.Goals as goal

pub loop-rest-preserved : goal.loop-rest-preserved
loop-rest-preserved g c = (
  λ last r takes.
      c.loop-rest.invariant.0 last r
      (takes_more (g.O.Sink.told c.loop-rest.out) (g.O.Sink.told c.put.new.self) last c.loop-rest.rest.now c.in_ok-count.count r c.in_ok-count.ensures.content
      (rw (take_rest c.loop-rest.rest.now c.in_ok-count.count) at takes)),
  omega (arith, c.loop-rest.invariant.1, c.in_ok-count.ensures.cause.later),
)
