use Rattle.std.proofs.Common.{◌≡◌, map, take}
use Rattle.gen_instance.specs.Orders.{key_of}
use Rattle.gen_instance.proofs.order.keys_of.Given as goal

-- the keys so far
abbrev pub invariant-loop-number : goal.invariant-loop-number
invariant-loop-number l = l.keys.items ≡ map (key_of l.points l.direction) (take l.number-index l.numbers)
