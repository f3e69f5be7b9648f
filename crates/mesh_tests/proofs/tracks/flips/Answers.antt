use Rattle.std.proofs.Common.{◌≡◌, Option, Some, None, IfSome, IsTrue, Bool, is_some, subst, subst₂}
use Rattle.tri_check.specs.Layouts.{Layout}
use Rattle.tri_theory.specs.Flips.{Flips}
use Rattle.mesh_tests.proofs.tracks.flips.Goals as goal

by_some : {Q : Type 0} (r : Option Q) (A : Type 0) (b : Bool) → b ≡ is_some r → IfSome r (λ q. A) → IsTrue b → A
by_some (Some q) A b e h t = h
by_some None A b e h t = absurd (let f = subst IsTrue e t in cc)

pub returns : goal.returns
returns c t =
    let turns : Flips c.in_ok-mesh.mesh.points c.in_ok-mesh.mesh.edges c.args.e = by_some c.quad.result (Flips c.in_ok-mesh.mesh.points c.in_ok-mesh.mesh.edges c.args.e) c.is_some.result c.is_some.ensures c.quad.ensures.flips t in
    let here = subst (λ (w : Layout). Flips w.points w.edges c.args.e) c.in_ok-mesh.ensures turns in
    subst₂ (λ ps es. Flips ps es c.args.e) c.in_ok-end.ensures.points c.in_ok-end.ensures.edges here
