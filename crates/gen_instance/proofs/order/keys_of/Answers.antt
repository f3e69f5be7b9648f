use Rattle.std.proofs.lemmas.List.Elements.{Contains-get_or}
use Rattle.gen_instance.proofs.order.keys_of.Goals as goal

pub key_of-requires-clause-named : goal.key_of-requires-clause-named
key_of-requires-clause-named c = c.requires.named _ (Contains-get_or c.args.numbers.now c.loop-number.number-index 0 c.loop-number-test.true)
