use Rattle.std.proofs.Common.{pos, length, map, sym, subst}
use Rattle.match_bound.specs.Potentials.{ArePotentials}
use Rattle.match_bound.specs.Tables.{weight}
use Rattle.match_bound.proofs.Stages.{stage_assignment, stage_greatest, stage_potentials}
use Rattle.match_bound.proofs.best.answer.Goals as goal

pub sum_of-sum-requires : goal.sum_of-sum-requires
sum_of-sum-requires c = stage_assignment (weight c.args.w.now) (length c.args.w.now) c.args.image.now c.args.u.now c.args.v.now c.in_ok-perm.perm c.requires c.in_ok-perm.ensures

pub returns-clause-permutation : goal.returns-clause-permutation
returns-clause-permutation c = stage_assignment (weight c.args.w.now) (length c.args.w.now) c.args.image.now c.args.u.now c.args.v.now c.in_ok-perm.perm c.requires c.in_ok-perm.ensures

pub returns-clause-greatest : goal.returns-clause-greatest
returns-clause-greatest c = stage_greatest (weight c.args.w.now) (length c.args.w.now) c.args.image.now c.args.u.now c.args.v.now c.in_ok-perm.perm c.requires c.in_ok-perm.ensures

pub returns-clause-potentials : goal.returns-clause-potentials
returns-clause-potentials c =
    subst (λ u. ArePotentials (weight c.args.w.now) (length c.args.w.now) u c.in_ok-ints_of-2.field-0 c.sum_of-sum.result) (sym c.in_ok-ints_of.ensures)
    (subst (λ v. ArePotentials (weight c.args.w.now) (length c.args.w.now) (map pos c.args.u.now) v c.sum_of-sum.result) (sym c.in_ok-ints_of-2.ensures)
    (stage_potentials (weight c.args.w.now) (length c.args.w.now) c.args.image.now c.args.u.now c.args.v.now c.in_ok-perm.perm c.requires c.in_ok-perm.ensures c.sum_of-sum.result c.sum_of-sum.ensures.sum))
