use Rattle.std.proofs.Common.{subst, arith}
use Rattle.std.proofs.lemmas.List.Elements.{Contains-get_or}
use Rattle.bound_law.specs.Bounds.{input_at}
use Rattle.pair_rows.specs.Tries.{IsTried}
use Rattle.pair_rows.specs.Versions.{Pruned}
use Rattle.pair_rows.proofs.Climbing.{bound_rises}
use Rattle.pair_rows.proofs.Formulas.{few_rounds}
use Rattle.pair_rows.proofs.proving.climb.Goals as goal

pub loop-bound-preserved : goal.loop-bound-preserved
loop-bound-preserved c =
    let points = c.args.inst.now.points in
    let inputs = c.args.inst.now.inputs in
    let A = input_at inputs c.args.i in
    let B = input_at inputs c.args.j in
    let problem = c.count.ensures.problem in
    let k = c.loop-bound.bound.lower in
    let tried = subst (IsTried points c.args.frame.now A B c.args.budget k) c.in-Refuted.is c.in_ok-log.ensures in
    let low = problem.triangulated A (Contains-get_or inputs c.args.i _ c.requires.first) in
    let high = problem.triangulated B (Contains-get_or inputs c.args.j _ c.requires.second) in
    let few = few_rounds Pruned points c.args.frame.now A B k tried.0 problem.placed low high c.requires.frame tried.1 in
    record {
      rounds = omega (arith, few);
      bound = bound_rises points c.args.frame.now A B c.args.budget k c.loop-bound.bound.evidence c.in-Refuted.log c.loop-bound.invariant.bound tried;
    }
