use Rattle.std.proofs.Common.{arith}
use Rattle.round_pack.specs.Slots.{flips_in}
use Rattle.round_pack.proofs.Slots.{no_more_flips}
use Rattle.round_pack.proofs.Numbers.{bounded}
use Rattle.round_pack.proofs.number.next_number.Goals as goal

pub overflow_add-result : goal.overflow_add-result
overflow_add-result c =
    let e = no_more_flips c.args.slots.now in let b = bounded (flips_in c.args.slots.now) c.other_side.result in omega arith

pub overflow_add-result-else-first-second : goal.overflow_add-result-else-first-second
overflow_add-result-else-first-second c =
    let e = no_more_flips c.args.slots.now in let b = bounded (flips_in c.args.slots.now) c.one_side.result in omega arith
