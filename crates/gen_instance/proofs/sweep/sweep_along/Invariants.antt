use Rattle.gen_instance.specs.Sweeping.{IsSweeping}
use Rattle.gen_instance.proofs.sweep.sweep_along.Given as goal

-- the points so far are passed
abbrev pub invariant-loop-place : goal.invariant-loop-place
invariant-loop-place l = IsSweeping l.points l.direction.a l.direction.b l.order.items l.place l.sweep
