use Rattle.flip_list_law.specs.FlipLists.{triangle}
use Rattle.round_pack.proofs.maker.triangle.Goals as goal

pub returns : goal.returns
unfolding triangle
returns c = cc
