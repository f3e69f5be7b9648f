use Rattle.std.proofs.Common.{◌≡◌, ℕ, ◌<◌, length, get_or}
use Rattle.gen_instance.proofs.order.order_of.Given as goal

-- the numbers so far
abbrev pub invariant-loop-i : goal.invariant-loop-i
invariant-loop-i l = record {
  count : length l.numbers.items ≡ l.i;
  values : (k : ℕ) → k < l.i → get_or l.numbers.items k 0 ≡ k;
}
