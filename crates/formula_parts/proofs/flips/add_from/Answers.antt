use Rattle.std.proofs.Common.{length, arith}
use Rattle.formula_parts.specs.Found.{IsSwap}
use Rattle.formula_parts.proofs.Found.{found_end}
use Rattle.formula_parts.proofs.flips.add_from.Goals as goal

pub returns : goal.returns
returns c = found_end (IsSwap c.args.inst.now.points c.args.segments.now) 4096 c.loop-j.pairs.items c.args.i c.loop-j.j c.loop-j.invariant (length c.args.segments.now) (omega arith) (let m = c.requires.segments.few in omega arith) (λ g p. p.1)
