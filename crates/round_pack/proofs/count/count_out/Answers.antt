use Rattle.std.proofs.Common.{◌≡◌, ◌∙◌, ◌-◌, ◌<◌, length, take, sym, ap, subst, arith}
use Rattle.round_pack.specs.Counts.{AreCounted}
use Rattle.round_pack.proofs.Counts.{known, one_round_less, less_in_round}
use Rattle.round_pack.proofs.count.count_out.Goals as goal

pub returns-then-index-eq1-clause-counted : goal.returns-then-index-eq1-clause-counted
returns-then-index-eq1-clause-counted c numbers rest C R F =
    let within : c.args.number - 1 < length c.args.counts.now.items = (let p = c.requires.positive in let w = c.requires.within in omega arith) in
    let long : length c.args.counts.now.items ≡ c.args.counts.now.len = omega arith in
    subst (λ xs. AreCounted xs rest) (ap (λ k. take (k - 1) c.args.counts.now.items) long ∙ sym c.pop.ensures.rest)
    (one_round_less c.args.counts.now.items numbers C rest c.args.number R F c.requires.positive c.requires.within (sym (known _ _ _ within c.index.ensures) ∙ c.if-index-eq1.true))

pub returns-else-index-eq1-clause-counted : goal.returns-else-index-eq1-clause-counted
returns-else-index-eq1-clause-counted c numbers rest C R F =
    let within : c.args.number - 1 < length c.args.counts.now.items = (let p = c.requires.positive in let w = c.requires.within in omega arith) in
    less_in_round c.args.counts.now.items numbers C rest c.args.number R F c.requires.positive c.requires.within (c.index_mut.result.now - 1) (λ e. c.if-index-eq1.false (known _ _ _ within c.index.ensures ∙ e))
    (ap (λ x. x - 1) (known _ _ _ within c.index_mut.ensures.value))
