use Rattle.std.proofs.Common.{ℕ, ◌<◌, length}
use Rattle.tri_theory.specs.Points.{IsLeft}
use Rattle.tri_theory.specs.Triangulations.{IsEmptyTriangle}
use Rattle.tri_check.specs.Stages.{IsNone}
use Rattle.tri_check.proofs.Searches.{on_true, on_false}
use Rattle.tri_check.proofs.network.is_open.Goals as goal

pub returns-then-not-has_left : goal.returns-then-not-has_left
returns-then-not-has_left c = λ p h l. absurd (on_false c.has_left.result ((q : ℕ) × (q < length c.args.points.now) × IsLeft c.args.points.now c.args.a c.args.b q) (IsNone (length c.args.points.now) (IsLeft c.args.points.now c.args.a c.args.b)) c.has_left.ensures c.if-not-has_left.true p h l)

pub returns-then-has_triangle : goal.returns-then-has_triangle
returns-then-has_triangle c = λ p h l. on_true c.has_triangle.result ((x : ℕ) × IsEmptyTriangle c.args.points.now c.args.edges.now c.args.a c.args.b x) ((x : ℕ) → ¬ IsEmptyTriangle c.args.points.now c.args.edges.now c.args.a c.args.b x) c.has_triangle.ensures c.if-has_triangle.true

pub returns : goal.returns
returns c = (
  on_true c.has_left.result ((q : ℕ) × (q < length c.args.points.now) × IsLeft c.args.points.now c.args.a c.args.b q) (IsNone (length c.args.points.now) (IsLeft c.args.points.now c.args.a c.args.b)) c.has_left.ensures c.if-not-has_left.false,
  on_false c.has_triangle.result ((x : ℕ) × IsEmptyTriangle c.args.points.now c.args.edges.now c.args.a c.args.b x) ((x : ℕ) → ¬ IsEmptyTriangle c.args.points.now c.args.edges.now c.args.a c.args.b x) c.has_triangle.ensures c.if-has_triangle.false,
)
