use Rattle.std.proofs.Common.{◌≡◌, ◌<◌, ◌≤◌, ◌∷◌, [], ◌+◌, length, subst, refl, arith}
use Rattle.json_value.specs.Values.{IsFirstNot}
use Rattle.json_value.proofs.Steps.{steps_more, steps_other, steps_all}
use Rattle.solution_json.specs.Edges.{NamesEdge, IsEdgeOf}
use Rattle.solution_json.proofs.Schedules.{at_place, singles, one_names, one_bad}
use Rattle.solution_json.proofs.edges.round_of.Goals as goal

pub returns-in-None-clause-fault : goal.returns-in-None-clause-fault
returns-in-None-clause-fault c =
    let lt : c.loop-i.i < length c.args.pairs.now = omega (arith, c.loop-i-test.true, c.len-i-end.ensures) in
    let other = steps_other NamesEdge IsEdgeOf (λ pair. pair ∷ []) c.args.pairs.now c.loop-i.i c.at.result.now c.loop-i.edges c.loop-i.place 0
    lt (at_place c.args.pairs.now c.loop-i.i c.at.result.now c.at.ensures) (one_bad c.at.result.now (c.in-None.ensures.none refl)) c.loop-i.invariant.1 in
    let at : c.loop-i.place + 0 ≡ c.loop-i.place = omega arith in
    subst (λ ps. IsFirstNot NamesEdge ps c.loop-i.place) (singles c.args.pairs.now) (subst (IsFirstNot NamesEdge _) at other)

pub loop-i-preserved : goal.loop-i-preserved
loop-i-preserved c =
    let lt : c.loop-i.i < length c.args.pairs.now = omega (arith, c.loop-i-test.true, c.len-i-end.ensures) in
    let more = steps_more NamesEdge IsEdgeOf (λ pair. pair ∷ []) c.args.pairs.now c.loop-i.i c.at.result.now c.loop-i.edges c.in-Some.edge c.loop-i.place 1
    lt (at_place c.args.pairs.now c.loop-i.i c.at.result.now c.at.ensures) c.in-Some.ensures.edge (one_names c.at.result.now c.in-Some.edge c.in-Some.ensures.edge) refl c.loop-i.invariant.1 in
    (omega (arith, c.loop-i.invariant.0), rw c.in_ok-push-in-Some.ensures.ok more)

pub returns-clause-ok : goal.returns-clause-ok
returns-clause-ok c =
    let le : length c.args.pairs.now ≤ c.loop-i.i = omega (arith, c.loop-i-test.false, c.len-i-end.ensures) in
    steps_all NamesEdge IsEdgeOf (λ pair. pair ∷ []) c.args.pairs.now c.loop-i.i c.loop-i.edges c.loop-i.place le c.loop-i.invariant.1
