use Rattle.std.proofs.Common.{◌∙◌, ◌<◌, [], ◌∷◌, ◌++◌, length, ap, arith}
use Rattle.std.proofs.lemmas.List.{take_all}
use Rattle.formula_parts.specs.Lists.{edge_at}
use Rattle.flip_cnf.specs.Building.{leaving}
use Rattle.flip_cnf.proofs.Changing.{two, left_more, left_same}
use Rattle.flip_cnf.proofs.build.changes.leave.Goals as goal
use Rattle.flip_cnf.proofs.build.changes.leave.Goals.{then-flip-e+in_ok-push-3, else-flip-e}

pub loop-n-init : goal.loop-n-init
loop-n-init c = two c.make-clause.result c.push.new.self c.push-2.new.self c.there.result c.there-2.result c.make-clause.ensures c.in_ok-push.ensures.ok c.in_ok-push-2.ensures.ok ∙ (λ i. c.there.ensures i ∷ c.there-2.ensures i ∷ [])

pub loop-n-preserved : goal.loop-n-preserved
loop-n-preserved c =
    let l : c.loop-n.n < length c.args.lists.now.flips = omega (arith, c.loop-n-test.true, c.flips-n-end.ensures.count) in
    elim c.if-flip-e.branch [
      | then-flip-e+in_ok-push-3 w ↦
          left_more c.requires.frame.points c.args.lists.now c.requires.frame.frame c.args.k c.args.t c.args.e c.loop-n.n c.requires.within l c.flip.result c.flip.ensures.within c.flip.ensures.pair c.loop-n.clause c.if-flip-e.clause
          w.if-flip-e.true c.loop-n.invariant (w.clause-is ∙ w.in_ok-push-3.ensures.ok ∙ ap (λ x. c.loop-n.clause ++ x ∷ []) w.made.ensures)
      | else-flip-e w ↦
          w.clause-is ∙ left_same c.requires.frame.points c.args.lists.now c.requires.frame.frame c.args.k c.args.t c.args.e c.loop-n.n c.requires.within l c.flip.result c.flip.ensures.within c.flip.ensures.pair c.loop-n.clause
          w.if-flip-e.false c.loop-n.invariant
    ]

pub returns : goal.returns
returns c = c.loop-n.invariant ∙ ap (leaving c.args.lists.now c.args.k c.args.t (edge_at c.args.lists.now.segments c.args.e)) (take_all c.loop-n.n c.args.lists.now.flips (omega (arith, c.flips-n-end.ensures.count)))
