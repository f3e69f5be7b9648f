use Rattle.round_pack.proofs.Groups.{adds_image}
use Rattle.round_pack.proofs.group.add_image.Goals as goal

pub returns-in_ok-insert : goal.returns-in_ok-insert
returns-in_ok-insert c = adds_image _ _ c.args.flip.now _ _ c.if-number-wanted.true c.in_ok-insert.ensures.ok
