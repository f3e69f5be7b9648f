use Rattle.std.proofs.Common.{◌≡◌, ◌∙◌, ◌++◌, ◌∷◌, [], ◌+◌, map, take, Some, sym, ap, subst, arith}
use Rattle.std.proofs.lemmas.List.{take_all, take_more}
use Rattle.std.proofs.lemmas.Option.{slice_get_within, get_or_from_slice_get}
use Rattle.edge_table.specs.declared.edge.Edge.{Edge}
use Rattle.tri_theory.specs.Triangulations.{IsSegment}
use Rattle.cross_bound.specs.declared.best.Side.{Side}
use Rattle.cross_bound.specs.Best.{IsBest}
use Rattle.cross_bound.proofs.FirstGreatest.{mapped_more}
use Rattle.cross_bound.proofs.best.best_of.Goals as goal

pub crossings-count-requires : goal.crossings-count-requires
crossings-count-requires c =
    let e = c.edge_at-edge.result in
    let s = c.len-i-end.ensures.triangulation.triangulation.segments e (c.loop-i.i, slice_get_within c.args.own.now.edges c.loop-i.i e c.edge_at-edge.ensures, get_or_from_slice_get c.args.own.now.edges c.loop-i.i e e c.edge_at-edge.ensures) in
    subst (λ ps. IsSegment ps e) c.requires s

pub loop-i-preserved : goal.loop-i-preserved
loop-i-preserved c = λ f is xs h.
    let e = c.edge_at-edge.result in
    let more : take (c.loop-i.i + 1) c.args.own.now.edges ≡ take c.loop-i.i c.args.own.now.edges ++ e ∷ [] =
    take_more c.args.own.now.edges c.loop-i.i e (slice_get_within c.args.own.now.edges c.loop-i.i e c.edge_at-edge.ensures) ∙ ap (λ y. take c.loop-i.i c.args.own.now.edges ++ y ∷ []) (get_or_from_slice_get c.args.own.now.edges c.loop-i.i e e c.edge_at-edge.ensures) in
    let g : Edge → Side × Edge = λ e. (c.args.from, e) in
    subst (λ l. IsBest f (xs ++ map g l) (Some c.better.result)) (sym more)
    (subst (λ l. IsBest f l (Some c.better.result)) (sym (mapped_more g xs (take c.loop-i.i c.args.own.now.edges) e))
    (c.better.ensures f (xs ++ map g (take c.loop-i.i c.args.own.now.edges)) (c.loop-i.invariant f is xs h) (c.crossings-count.ensures ∙ sym (is e))))

pub returns : goal.returns
returns c = λ f is xs h.
    subst (λ l. IsBest f (xs ++ map (λ (e : Edge). let p : Side × Edge = (c.args.from, e) in p) l) c.loop-i.best) (take_all c.loop-i.i c.args.own.now.edges (omega (arith, c.len-i-end.ensures.len, c.loop-i-test.false)))
    (c.loop-i.invariant f is xs h)
