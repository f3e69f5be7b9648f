use Rattle.std.proofs.Common.{◌≤◌, ◌∙◌, ◌+◌, drop, length, sym, subst, arith}
use Rattle.std.proofs.lemmas.List.{drop_all}
use Rattle.std.proofs.lemmas.Result.{IfOk-weaker}
use Rattle.plan_moves.proofs.Lowered.{apart}
use Rattle.plan_moves.proofs.Choices.{over_candidates}
use Rattle.plan_moves.proofs.GreedyRounds.{Going, begins, tried, ends}
use Rattle.plan_moves.proofs.greedy.greedy_round.Goals as goal

pub loop-i-init : goal.loop-i-init
loop-i-init c =
    let P = c.points.ensures.triangulation.placed in
    let I = c.points.ensures.triangulation.triangulation in
    let up = c.len-i-end.ensures.ascending in
    subst (λ taken. Going c.args.mesh.now.points c.args.mesh.now.edges c.args.centre.now.edges taken c.args.candidates.now) (sym c.make-taken.ensures)
    (begins _ P _ I c.args.centre.now.edges c.args.candidates.now up (over_candidates _ P _ I c.args.centre.now.edges c.args.candidates.now up c.requires.candidates))

pub loop-i-preserved : goal.loop-i-preserved
loop-i-preserved c =
    tried _ c.points.ensures.triangulation.placed _ c.points.ensures.triangulation.triangulation c.args.centre.now.edges c.loop-i.taken c.at.result (drop (c.loop-i.i + 1) c.args.candidates.now)
    (subst (Going c.args.mesh.now.points c.args.mesh.now.edges c.args.centre.now.edges c.loop-i.taken) (apart c.args.candidates.now c.loop-i.i c.at.result (omega (arith, c.len-i-end.ensures.len, c.loop-i-test.true)) c.at.ensures) c.loop-i.invariant)
    c.try_edge.new.taken c.in_ok-try_edge.ensures

pub returns : goal.returns
returns c =
    let l : length c.args.candidates.now ≤ c.loop-i.i = omega (arith, c.len-i-end.ensures.len, c.loop-i-test.false) in
    let G = subst (Going c.args.mesh.now.points c.args.mesh.now.edges c.args.centre.now.edges c.loop-i.taken) (drop_all c.loop-i.i c.args.candidates.now l) c.loop-i.invariant in
    IfOk-weaker c.listed.result _ _ (λ v h. h ∙ ends _ c.points.ensures.triangulation.placed _ c.points.ensures.triangulation.triangulation c.args.centre.now.edges c.loop-i.taken G c.listed.ensures.ascending) c.listed.ensures.ok
