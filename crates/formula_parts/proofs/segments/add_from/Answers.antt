use Rattle.std.proofs.Common.{length, arith}
use Rattle.tri_theory.specs.Triangulations.{IsSegment}
use Rattle.formula_parts.proofs.Found.{found_begin, found_end}
use Rattle.formula_parts.proofs.segments.add_from.Goals as goal

pub loop-b-init : goal.loop-b-init
loop-b-init c = found_begin (IsSegment c.args.inst.now.points) 64 c.args.segments.now.items c.args.a (λ g s. s.low_first) c.requires.found

pub returns : goal.returns
returns c = found_end (IsSegment c.args.inst.now.points) 64 c.loop-b.segments.items c.args.a c.loop-b.b c.loop-b.invariant (length c.args.inst.now.points) (omega arith) (omega arith) (λ g s. s.in_range)
