use Rattle.std.proofs.Common.{subst, arith}
use Rattle.round_pack.specs.Groups.{IsImageSet}
use Rattle.round_pack.proofs.Groups.{image_more}
use Rattle.round_pack.proofs.group.image_set.Goals as goal

pub loop-i-preserved : goal.loop-i-preserved
loop-i-preserved c =
    subst (IsImageSet c.add_image.new.set c.args.flips.now c.args.numbers.now c.args.wanted) (omega arith)
    (image_more c.loop-i.set c.add_image.new.set c.args.flips.now c.args.numbers.now c.args.wanted c.loop-i.i c.index-flips-i.result c.loop-i-test.true c.index-flips-i.is c.in_ok-add_image.ensures c.loop-i.invariant)
