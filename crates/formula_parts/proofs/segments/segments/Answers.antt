use Rattle.std.proofs.Common.{◌≡◌, length, subst, arith}
use Rattle.tri_theory.specs.Triangulations.{IsSegment}
use Rattle.formula_parts.specs.Found.{AreFound}
use Rattle.formula_parts.proofs.Whole.{all_found}
use Rattle.formula_parts.proofs.segments.segments.Goals as goal

pub returns : goal.returns
returns c =
    let e : c.loop-a.a ≡ length c.args.inst.now.points = omega arith in
    all_found c.args.inst.now.points c.loop-a.found.items (subst (λ n. AreFound (IsSegment c.args.inst.now.points) 64 c.loop-a.found.items n 0) e c.loop-a.invariant) c.requires
