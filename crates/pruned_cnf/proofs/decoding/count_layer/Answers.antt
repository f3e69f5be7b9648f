use Rattle.std.proofs.Common.{◌∙◌, ◌<◌, length, true, false, sym, ap, arith}
use Rattle.formula_law.specs.Frames.{Frame}
use Rattle.formula_parts.specs.Lists.{no_edge}
use Rattle.pruned_cnf.specs.Queries.{live_in}
use Rattle.pruned_cnf.proofs.Numbers.{more_kept}
use Rattle.pruned_cnf.proofs.decoding.count_layer.Goals as goal
use Rattle.pruned_cnf.proofs.decoding.count_layer.Goals.{then-is_live, else-is_live}

pub loop-n-preserved : goal.loop-n-preserved
loop-n-preserved c =
    let q = c.args.query.now in
    let l : c.loop-n.n < length q.frame.segments = omega (arith, c.loop-n-test.true, c.segments-n-end.ensures.count, ap (λ (F : Frame). length F.segments) c.lists.ensures.lists) in
    elim c.if-is_live.branch [
      | then-is_live w ↦ (omega (arith, more_kept (live_in q c.args.t) q.frame.segments c.loop-n.n no_edge 0 c.loop-n.live c.if-is_live.live true l (sym w.if-is_live.true ∙ c.is_live.ensures) (omega (arith, c.loop-n.invariant.0)) (omega (arith, w.live-is))), omega (arith, w.live-is, c.loop-n.invariant.1))
      | else-is_live w ↦ (omega (arith, more_kept (live_in q c.args.t) q.frame.segments c.loop-n.n no_edge 0 c.loop-n.live c.if-is_live.live false l (sym w.if-is_live.false ∙ c.is_live.ensures) (omega (arith, c.loop-n.invariant.0)) (omega (arith, w.live-is))), omega (arith, w.live-is, c.loop-n.invariant.1))
    ]
