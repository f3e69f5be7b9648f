use Rattle.std.proofs.Common.{rules}
use Rattle.centre_words.proofs.Differ.{three_differ}
use Rattle.centre_words.proofs.meaning.all_differ.Goals as goal

pub returns-then-ne-2 : goal.returns-then-ne-2
returns-then-ne-2 c = let t = three_differ c.args.instance.now c.args.solution.now c.args.certificate.now in search (rules, t)

pub returns-else-ne-2 : goal.returns-else-ne-2
returns-else-ne-2 c = let t = three_differ c.args.instance.now c.args.solution.now c.args.certificate.now in search (rules, t)
