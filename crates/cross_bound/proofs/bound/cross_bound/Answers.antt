use Rattle.std.proofs.Common.{◌≡◌, ◌∙◌, Some, true≢false, sym, ap, subst}
use Rattle.edge_table.specs.declared.edge.Edge.{Edge}
use Rattle.tri_theory.specs.Triangulations.{IsTriangulation}
use Rattle.crossing_law.specs.Digits.{digits}
use Rattle.cross_bound.specs.declared.best.Side.{Side}
use Rattle.cross_bound.specs.Best.{IsBest}
use Rattle.cross_bound.specs.Bounds.{edges_of_both, crossed_by_other}
use Rattle.cross_bound.proofs.Bounds.{best_of_both, none_to_try, keeps_apart, found_in}
use Rattle.cross_bound.proofs.bound.cross_bound.Goals as goal

pub unreachable-requires : goal.unreachable-requires
unreachable-requires c =
    let B = best_of_both c.args.a.now c.args.b.now c.in_ok-first.first c.in_ok-second.second c.best_of-of_first.result c.best_of-of_both.result c.requires c.in_ok-first.ensures c.in_ok-second.ensures c.best_of-of_first.ensures c.best_of-of_both.ensures in
    let equal : c.args.a.now.edges ≡ c.args.b.now.edges = none_to_try _ _ (subst (IsBest (crossed_by_other c.args.a.now.points c.args.a.now.edges c.args.b.now.edges) (edges_of_both c.args.a.now.edges c.args.b.now.edges)) c.in-None.is B) in
    true≢false (sym (c.same.ensures.1 equal) ∙ c.if-same.false)

pub returns-clause-bound : goal.returns-clause-bound
returns-clause-bound c =
    let B = best_of_both c.args.a.now c.args.b.now c.in_ok-first.first c.in_ok-second.second c.best_of-of_first.result c.best_of-of_both.result c.requires c.in_ok-first.ensures c.in_ok-second.ensures c.best_of-of_first.ensures c.best_of-of_both.ensures in
    let K : IsBest (crossed_by_other c.args.a.now.points c.args.a.now.edges c.args.b.now.edges) (edges_of_both c.args.a.now.edges c.args.b.now.edges) (Some c.in-Some.best) =
    subst (IsBest (crossed_by_other c.args.a.now.points c.args.a.now.edges c.args.b.now.edges) (edges_of_both c.args.a.now.edges c.args.b.now.edges)) c.in-Some.is B in
    (λ e. true≢false (sym (c.same.ensures.1 e) ∙ c.if-same.false), K.1, K.0, c.digits.ensures)

pub returns-clause-apart : goal.returns-clause-apart
returns-clause-apart c = λ k l.
    let B = best_of_both c.args.a.now c.args.b.now c.in_ok-first.first c.in_ok-second.second c.best_of-of_first.result c.best_of-of_both.result c.requires c.in_ok-first.ensures c.in_ok-second.ensures c.best_of-of_first.ensures c.best_of-of_both.ensures in
    let K : IsBest (crossed_by_other c.args.a.now.points c.args.a.now.edges c.args.b.now.edges) (edges_of_both c.args.a.now.edges c.args.b.now.edges) (Some c.in-Some.best) =
    subst (IsBest (crossed_by_other c.args.a.now.points c.args.a.now.edges c.args.b.now.edges) (edges_of_both c.args.a.now.edges c.args.b.now.edges)) c.in-Some.is B in
    keeps_apart c.args.a.now.points c.args.a.now.edges c.args.b.now.edges c.in-Some.best.from c.in-Some.best.edge k c.digits.result c.len.ensures.triangulation.placed c.len.ensures.triangulation.triangulation
    (subst (λ ps. IsTriangulation ps c.args.b.now.edges) (sym c.requires) c.len-2.ensures.triangulation.triangulation)
    (found_in {X = Side × Edge} (edges_of_both c.args.a.now.edges c.args.b.now.edges) K.1.place (c.in-Some.best.from, c.in-Some.best.edge) K.1.there) (c.digits.ensures ∙ ap digits K.0) l
