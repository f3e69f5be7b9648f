use Rattle.std.proofs.Common.{◌∙◌, true≢false, sym, subst, arith}
use Rattle.edge_table.specs.declared.edge.Edge.{Edge}
use Rattle.edge_table.proofs.Edges.{pair}
use Rattle.tri_theory.specs.Flips.{Flips}
use Rattle.tri_check.specs.Layouts.{Layout, IsTriangulated}
use Rattle.flip_mesh.proofs.Quads.{quad_flips, no_flip_left, no_flip_right, no_flip_flat, quad_of}
use Rattle.flip_mesh.proofs.mesh.Mesh.quad.Goals as goal

pub returns-then-is_convex-clause-some : goal.returns-then-is_convex-clause-some
returns-then-is_convex-clause-some c =
    let I = subst (λ (v : Layout). IsTriangulated v.points v.edges) c.self.view_is c.self.invariant.triangulated in
    record {
      ends = pair (sym c.low-a.ensures.low) (sym c.high-c.ensures.high);
      low_first = omega arith;
      corners = quad_of _ I.placed _ I.triangulation _ _ _ _ c.in-Some.ensures.corner c.in-Some-apex.ensures.corner (c.is_convex.ensures.0 c.if-is_convex.true);
    }

pub returns-else-is_convex-clause-none : goal.returns-else-is_convex-clause-none
returns-else-is_convex-clause-none c =
    let I = subst (λ (v : Layout). IsTriangulated v.points v.edges) c.self.view_is c.self.invariant.triangulated in
    subst (λ (e : Edge). Flips c.args.self.now.points c.args.self.now.edges e → ⊥) (pair c.low-a.ensures.low c.high-c.ensures.high)
    (no_flip_flat _ I.placed _ I.triangulation _ _ _ _ (omega arith) c.in-Some.ensures.corner c.in-Some-apex.ensures.corner (λ x. true≢false (sym (c.is_convex.ensures.1 x) ∙ c.if-is_convex.false)))

pub returns-in-None-apex-clause-none : goal.returns-in-None-apex-clause-none
returns-in-None-apex-clause-none c =
    let I = subst (λ (v : Layout). IsTriangulated v.points v.edges) c.self.view_is c.self.invariant.triangulated in
    subst (λ (e : Edge). Flips c.args.self.now.points c.args.self.now.edges e → ⊥) (pair c.low-a.ensures.low c.high-c.ensures.high)
    (no_flip_right _ I.placed _ I.triangulation _ _ (omega arith) c.in-None-apex.ensures.corner)

pub returns-in-None-clause-none : goal.returns-in-None-clause-none
returns-in-None-clause-none c =
    let I = subst (λ (v : Layout). IsTriangulated v.points v.edges) c.self.view_is c.self.invariant.triangulated in
    subst (λ (e : Edge). Flips c.args.self.now.points c.args.self.now.edges e → ⊥) (pair c.low-a.ensures.low c.high-c.ensures.high)
    (no_flip_left _ I.placed _ I.triangulation _ _ (omega arith) c.in-None.ensures.corner)

pub returns-then-is_convex-clause-flips : goal.returns-then-is_convex-clause-flips
returns-then-is_convex-clause-flips c = quad_flips _ _ _ _ (returns-then-is_convex-clause-some c)
