use Rattle.std.proofs.Common.{rules, ◌≡◌, subst}
use Rattle.std.specs.List.Sorted.{IsPermutation}
use Rattle.std.proofs.lemmas.Fn.{always_returns_same}
use Rattle.side_table.proofs.Orders.{key_of, sorted_is}
use Rattle.side_table.proofs.slots.listed.Goals as goal

pub returns : goal.returns
returns c =
    let copied : c.in_ok-list.list.items ≡ c.args.slots.now = search rules in
    sorted_is c.args.slots.now c.sort_unstable_by_key.new.self.items c.requires
    (subst (λ ss. IsPermutation ss c.sort_unstable_by_key.new.self.items) copied c.sort_unstable_by_key.ensures.permutation)
    (c.sort_unstable_by_key.ensures.sorted key_of (always_returns_same _ (λ a r. r ≡ key_of a.0.now) _ (λ a r q k. search rules)))
