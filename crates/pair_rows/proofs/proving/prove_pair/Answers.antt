use Rattle.std.proofs.Common.{[], arith}
use Rattle.std.proofs.lemmas.Result.{IfOk-weaker}
use Rattle.std.proofs.lemmas.List.Elements.{Contains-get_or}
use Rattle.bound_law.specs.Bounds.{input_at}
use Rattle.cross_bound.specs.declared.bound.CrossBound.TheVariants.{Same, Crossed}
use Rattle.pair_rows.specs.Versions.{Pruned}
use Rattle.pair_rows.proofs.Climbing.{seen_bound, bound_is_low, bound_begins}
use Rattle.pair_rows.proofs.RowLaws.{same_earned, climbed_justified, row_true, row_exact}
use Rattle.pair_rows.proofs.proving.prove_pair.Goals as goal

pub climb-requires-clause-rounds : goal.climb-requires-clause-rounds
climb-requires-clause-rounds c =
    let points = c.args.inst.now.points in
    let inputs = c.args.inst.now.inputs in
    let A = input_at inputs c.args.i in
    let B = input_at inputs c.args.j in
    let problem = c.count.ensures.problem in
    let order = c.requires.order in
    let within = c.requires.within in
    let is = seen_bound c.input.result.now.points points inputs c.args.i c.args.j c.input.result.now.edges c.input-2.result.now.edges c.in_ok-cross_bound.field-0 (Crossed c.in-Crossed.from c.in-Crossed.edge c.in-Crossed.count c.in-Crossed.lower)
    c.input.ensures.points c.input.ensures.edges c.input-2.ensures.edges c.in-Crossed.is c.in_ok-cross_bound.ensures.bound in
    let low = bound_is_low points A B c.in-Crossed.from c.in-Crossed.edge c.in-Crossed.count c.in-Crossed.lower
    (problem.triangulated A (Contains-get_or inputs c.args.i [] (omega (arith, order, within)))) (problem.triangulated B (Contains-get_or inputs c.args.j [] within)) problem.few_points is in
    omega (arith, low)

pub climb-requires-clause-bound : goal.climb-requires-clause-bound
climb-requires-clause-bound c =
    let points = c.args.inst.now.points in
    let inputs = c.args.inst.now.inputs in
    let is = seen_bound c.input.result.now.points points inputs c.args.i c.args.j c.input.result.now.edges c.input-2.result.now.edges c.in_ok-cross_bound.field-0 (Crossed c.in-Crossed.from c.in-Crossed.edge c.in-Crossed.count c.in-Crossed.lower)
    c.input.ensures.points c.input.ensures.edges c.input-2.ensures.edges c.in-Crossed.is c.in_ok-cross_bound.ensures.bound in
    bound_begins points c.args.frame.now (input_at inputs c.args.i) (input_at inputs c.args.j) c.args.budget c.in-Crossed.from c.in-Crossed.edge c.in-Crossed.count c.in-Crossed.lower is

pub returns-in-Same-clause-begins : goal.returns-in-Same-clause-begins
returns-in-Same-clause-begins c =
    seen_bound c.input.result.now.points c.args.inst.now.points c.args.inst.now.inputs c.args.i c.args.j c.input.result.now.edges c.input-2.result.now.edges c.in_ok-cross_bound.field-0 Same
    c.input.ensures.points c.input.ensures.edges c.input-2.ensures.edges c.in-Same.is c.in_ok-cross_bound.ensures.bound

pub returns-in-Same-clause-earned : goal.returns-in-Same-clause-earned
returns-in-Same-clause-earned c =
    same_earned c.args.inst.now.points c.args.inst.now.inputs c.args.frame.now c.args.budget c.args.i c.args.j c.make.result c.requires.order c.requires.within c.make.ensures
    (seen_bound c.input.result.now.points c.args.inst.now.points c.args.inst.now.inputs c.args.i c.args.j c.input.result.now.edges c.input-2.result.now.edges c.in_ok-cross_bound.field-0 Same
    c.input.ensures.points c.input.ensures.edges c.input-2.ensures.edges c.in-Same.is c.in_ok-cross_bound.ensures.bound)

pub returns-in-Same-clause-exact : goal.returns-in-Same-clause-exact
returns-in-Same-clause-exact c =
    row_exact Pruned c.args.inst.now.points c.args.inst.now.inputs c.args.frame.now _ c.count.ensures.problem c.requires.frame
    (same_earned c.args.inst.now.points c.args.inst.now.inputs c.args.frame.now c.args.budget c.args.i c.args.j c.make.result c.requires.order c.requires.within c.make.ensures
    (seen_bound c.input.result.now.points c.args.inst.now.points c.args.inst.now.inputs c.args.i c.args.j c.input.result.now.edges c.input-2.result.now.edges c.in_ok-cross_bound.field-0 Same
    c.input.ensures.points c.input.ensures.edges c.input-2.ensures.edges c.in-Same.is c.in_ok-cross_bound.ensures.bound)).justified

pub returns-in-Crossed-clause-is_true : goal.returns-in-Crossed-clause-is_true
returns-in-Crossed-clause-is_true c =
    let points = c.args.inst.now.points in
    let inputs = c.args.inst.now.inputs in
    IfOk-weaker c.climb.result _ _ (λ row h. row_true Pruned points inputs c.args.frame.now row c.count.ensures.problem c.requires.frame (climbed_justified points inputs c.args.frame.now c.args.budget c.args.i c.args.j row c.requires.order c.requires.within h)) c.climb.ensures

pub returns-in-Crossed-clause-exact : goal.returns-in-Crossed-clause-exact
returns-in-Crossed-clause-exact c =
    let points = c.args.inst.now.points in
    let inputs = c.args.inst.now.inputs in
    IfOk-weaker c.climb.result _ _ (λ row h. row_exact Pruned points inputs c.args.frame.now row c.count.ensures.problem c.requires.frame (climbed_justified points inputs c.args.frame.now c.args.budget c.args.i c.args.j row c.requires.order c.requires.within h)) c.climb.ensures
