use Rattle.std.proofs.Common.{◌∙◌, ap}
use Rattle.std.specs.Ordering.{is_lt}
use Rattle.plan_moves.proofs.LastRounds.{first_means}
use Rattle.plan_moves.proofs.lowering.comes_first.Goals as goal

pub returns-in-Some : goal.returns-in-Some
returns-in-Some c = first_means c.args.e c.at.result.now c.args.found.now c.in-Some.edges c.is_lt.result c.in-Some.is c.requires c.at.ensures (c.is_lt.ensures ∙ ap is_lt c.cmp.ensures)
