use Rattle.std.proofs.Common.{length, arith}
use Rattle.formula_parts.specs.Found.{IsCrossing}
use Rattle.formula_parts.proofs.Found.{found_begin, found_end}
use Rattle.formula_parts.proofs.crossings.add_from.Goals as goal

pub loop-j-init : goal.loop-j-init
loop-j-init c = found_begin (IsCrossing c.args.inst.now.points c.args.segments.now) 4096 c.args.pairs.now.items c.args.i (λ g p. p.0) c.requires.found

pub returns : goal.returns
returns c = found_end (IsCrossing c.args.inst.now.points c.args.segments.now) 4096 c.loop-j.pairs.items c.args.i c.loop-j.j c.loop-j.invariant (length c.args.segments.now) (omega arith) (let m = c.requires.segments.few in omega arith) (λ g p. p.1)
