use Rattle.std.proofs.Common.{◌≡◌, map, take}
use Rattle.gen_instance.specs.declared.order.Key.{Key}
use Rattle.gen_instance.proofs.order.numbers_of.Given as goal

-- the numbers so far
abbrev pub invariant-loop-key : goal.invariant-loop-key
invariant-loop-key l = l.numbers.items ≡ map (λ (k : Key). k.number) (take l.key-index l.keys)
