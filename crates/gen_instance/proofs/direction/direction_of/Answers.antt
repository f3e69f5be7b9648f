use Rattle.std.proofs.Common.{◌∙◌, ◌+◌, ap}
use Rattle.gen_instance.proofs.Words.{directed}
use Rattle.gen_instance.proofs.direction.direction_of.Goals as goal

pub returns-clause-same : goal.returns-clause-same
returns-clause-same c =
    c.direction_by.ensures.same
    ∙ directed c.new-words.result c.next_word-v.new.self c.next_word-w.new.self c.next_word-v.result c.next_word-w.result c.next_word-v.ensures c.next_word-w.ensures c.args.seed c.args.t (c.from.result + 1) (ap (λ n. n + 1) c.from.ensures) c.new-words.ensures
