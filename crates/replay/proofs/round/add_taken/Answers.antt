use Rattle.std.proofs.Common.{◌∙◌, ◌++◌, ◌∷◌, [], ap, if◌then◌else◌}
use Rattle.replay.proofs.Lists.{edge_missing}
use Rattle.replay.proofs.round.add_taken.Goals as goal

pub returns : goal.returns
returns c = c.in_ok-insert.ensures.keys ∙ ap (λ b. if b then c.args.taken.now.keys else c.args.taken.now.keys ++ c.args.e ∷ []) (edge_missing c.args.taken.now.keys c.args.e c.requires)
