use Rattle.round_pack.proofs.Counts.{rounds_less, rounds_stay}
use Rattle.round_pack.proofs.count.rounds_without.Goals as goal

pub returns-then-counts-number-eq1 : goal.returns-then-counts-number-eq1
returns-then-counts-number-eq1 c numbers rest C R F = rounds_less c.args.counts.now numbers C rest c.args.number R F c.requires.positive c.requires.within c.if-counts-number-eq1.true

pub returns-else-counts-number-eq1 : goal.returns-else-counts-number-eq1
returns-else-counts-number-eq1 c numbers rest C R F = rounds_stay c.args.counts.now numbers C rest c.args.number R F c.requires.positive c.requires.within c.if-counts-number-eq1.false
