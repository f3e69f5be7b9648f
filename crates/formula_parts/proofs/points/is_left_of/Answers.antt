use Rattle.std.proofs.Common.{◌≡◌, ◌∙◌, ◌↔◌, ◌<ℤ◌, pos, subst}
use Rattle.std.specs.Bool.{IsTrue}
use Rattle.geo_orient.proofs.Bits.{returned}
use Rattle.geo_orient.specs.Predicates.{orient}
use Rattle.tri_theory.specs.Points.{turn}
use Rattle.formula_parts.proofs.points.is_left_of.Goals as goal

pub returns : goal.returns
returns c =
    let e : c.orient.result ≡ turn c.args.inst.now.points c.args.a c.args.b c.args.c = c.orient.ensures ∙ (λ i. orient (c.point_at.ensures.point i) (c.point_at-2.ensures.point i) (c.point_at-3.ensures.point i)) in
    subst (λ z. IsTrue c.is_positive.result ↔ (pos 0 <ℤ z)) (returned _ _ c.orient.type_inv e) c.is_positive.ensures
