use Rattle.std.proofs.Common.{◌+◌, ◌-◌, ◌<◌, ◌++◌, ◌∷◌, [], suc, length, sym, ap, subst, arith}
use Rattle.round_pack.specs.Slots.{numbers_in}
use Rattle.round_pack.proofs.Slots.{as_many_numbers, no_more_flips}
use Rattle.round_pack.specs.Counts.{AreCounted}
use Rattle.round_pack.proofs.Counts.{at_most, known, more_in_round, one_round_more}
use Rattle.round_pack.proofs.count.count_in.Goals as goal

pub overflow_add-index_mut : goal.overflow_add-index_mut
overflow_add-index_mut c =
    let within : c.args.number - 1 < length c.args.counts.now.items = omega arith in
    let a = c.requires.counted.each (c.args.number - 1) within in
    let d = as_many_numbers c.args.slots.now in let f = no_more_flips c.args.slots.now in
    let b = at_most (numbers_in c.args.slots.now) (suc (c.args.number - 1)) in
    let e = known _ _ _ within c.index_mut.ensures.value in
    omega arith

pub returns-then-round-len-clause-counted : goal.returns-then-round-len-clause-counted
returns-then-round-len-clause-counted c =
    let within : c.args.number - 1 < length c.args.counts.now.items = omega arith in
    more_in_round c.args.counts.now.items (numbers_in c.args.slots.now) c.requires.counted c.args.number (c.index_mut.result.now + 1) c.requires.positive within (ap (λ x. x + 1) (known _ _ _ within c.index_mut.ensures.value))

pub returns-else-round-len-clause-counted : goal.returns-else-round-len-clause-counted
returns-else-round-len-clause-counted c =
    subst (λ xs. AreCounted xs ((numbers_in c.args.slots.now) ++ c.args.number ∷ [])) (sym c.push_reserved.ensures.items)
    (one_round_more c.args.counts.now.items (numbers_in c.args.slots.now) c.requires.counted c.args.number c.requires.positive (omega arith))
