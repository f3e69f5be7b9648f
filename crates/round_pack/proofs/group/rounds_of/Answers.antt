use Rattle.std.proofs.Common.{◌∙◌, ◌++◌, ◌∷◌, [], ap₂}
use Rattle.round_pack.proofs.Groups.{took, ascending_more}
use Rattle.round_pack.proofs.group.rounds_of.Goals as goal

pub loop-i-preserved : goal.loop-i-preserved
loop-i-preserved c = record {
  same =
      c.in_ok-push.ensures.ok ∙ ap₂ (λ xs x. xs ++ x ∷ []) c.loop-i.invariant.same c.in_ok-seq_of.ensures.same
      ∙ took c.args.sets.now c.loop-i.i c.index-sets-i.result c.loop-i-test.true c.index-sets-i.is;
  ascending = ascending_more c.args.sets.now c.loop-i.i c.index-sets-i.result c.loop-i-test.true c.index-sets-i.is c.in_ok-seq_of.ensures.ascending c.loop-i.invariant.ascending;
}
