use Rattle.std.proofs.Common.{◌≡◌, List, refl, sym, subst, subst₂}
use Rattle.geo_orient.specs.declared.Point.{Point}
use Rattle.edge_table.specs.declared.edge.Edge.{Edge}
use Rattle.edge_table.specs.Edges.{edge}
use Rattle.tri_theory.specs.Flips.{IsQuad, IsFlip}
use Rattle.tri_check.specs.Layouts.{Layout}
use Rattle.flip_mesh.specs.declared.mesh.Quad.{Quad}
use Rattle.side_table.specs.declared.side.Side.{Side}
use Rattle.flip_mesh.specs.Sides.{CanTurn, IsTurned, edges_of}
use Rattle.flip_mesh.specs.Faithful.{IsFaithful}
use Rattle.flip_mesh.specs.Answers.{IsQuadAt}
use Rattle.flip_mesh.proofs.Flipped.{can_turn, is_flip, after_turn}
use Rattle.flip_mesh.proofs.mesh.Mesh.turn.Goals as goal

module _ (points : List Point) (old : List Side) (M : IsFaithful points old) (value : Layout) (e : Edge) (q : Quad) (is : let v : Layout = record { points = points; edges = edges_of old } in v ≡ value) (h : IsQuadAt value.points value.edges e q) where
  corners : IsQuad points (edges_of old) q.a q.b q.c q.d
  corners = subst (λ (v : Layout). IsQuad v.points v.edges q.a q.b q.c q.d) (sym is) h.corners

  asked : CanTurn old q.a q.b q.c q.d
  asked = can_turn points old M q.a q.b q.c q.d corners

  faithful : (new : List Side) → IsTurned old new q.a q.b q.c q.d → IsFaithful points new
  faithful new t = after_turn points old M q.a q.b q.c q.d corners h.low_first new t

  flipped : (new : List Side) (f : Edge) → IsTurned old new q.a q.b q.c q.d → f ≡ edge q.b q.d → IsFlip value.points value.edges e f (edges_of new)
  flipped new f t g =
      subst (λ (v : Layout). IsFlip v.points v.edges e f (edges_of new)) is
      (subst₂ (λ x y. IsFlip points (edges_of old) x y (edges_of new)) (sym h.ends) (sym g) (is_flip points old M q.a q.b q.c q.d corners h.low_first new t))

pub turn-requires : goal.turn-requires
turn-requires c = asked _ _ c.self.invariant c.args.self.now c.args.e c.args.q c.self.view_is c.requires

pub invariant_of-self : goal.invariant_of-self
invariant_of-self c = faithful _ _ c.self.invariant c.args.self.now c.args.e c.args.q c.self.view_is c.requires _ c.turn.ensures

pub unreachable-requires : goal.unreachable-requires
unreachable-requires c = (asked _ _ c.self.invariant c.args.self.now c.args.e c.args.q c.self.view_is c.requires).b_d (c.in-None.ensures.none.0 refl)

pub returns-clause-edges : goal.returns-clause-edges
returns-clause-edges c = flipped _ _ c.self.invariant c.args.self.now c.args.e c.args.q c.self.view_is c.requires _ c.in-Some.f c.turn.ensures c.in-Some.ensures.ends
