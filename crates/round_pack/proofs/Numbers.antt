-- Round numbers, and the greatest of them.
use Rattle.std.proofs.Common.{◌≡◌, ◌∙◌, ℕ, zero, suc, ◌+◌, ◌<◌, ◌≤◌, max, Some, None, List, [], ◌∷◌, length, get_or, drop, refl, sym, ap, arith}
use Rattle.flip_list_law.specs.declared.Flip.{Flip}
use Rattle.flip_list_law.specs.FlipLists.{Triangle, makes, rounds_before, number_after, last_numbers_from, last_numbers, round_numbers, greatest}
use Rattle.flip_list_law.proofs.FlipLists.{number_at, number_of_last}
use Rattle.round_pack.specs.Slots.{Slot, flips_in, numbers_in, rank, ranked, slot_makes, slot_number}
use Rattle.round_pack.specs.Chains.{last_where}
use Rattle.round_pack.proofs.Slots.{holds, maker_in, number_at_rank}
use Rattle.flip_list_law.proofs.Grouping.{AreBounded, counted, bounded_before}

bounded_from : (flips : List Flip) (number_of : Triangle → ℕ) (n : ℕ) → AreBounded number_of n → AreBounded (last_numbers_from number_of flips) (n + length flips)
bounded_from [] number_of n up t = let h = up t in omega arith
bounded_from (flip ∷ flips) number_of n up t = let h = bounded_from flips (number_after number_of flip) (suc n) after t in omega arith
  where
    after : AreBounded (number_after number_of flip) (suc n)
    after t = let b = bounded_before number_of flip n up in let h = up t in counted (makes flip t) (suc (rounds_before number_of flip)) (number_of t) (suc n) (omega arith) (omega arith)

-- no number is above the number of flips
pub bounded : (flips : List Flip) (t : Triangle) → last_numbers flips t ≤ length flips
bounded flips t = let h = bounded_from flips (λ t. 0) 0 (λ t. omega arith) t in omega arith

pub greatest_from : (ns : List ℕ) (i d : ℕ) → i < length ns → greatest (drop i ns) ≡ max (get_or ns i d) (greatest (drop (suc i) ns))
greatest_from [] i d l = absurd (omega arith)
greatest_from (n ∷ ns) zero d l = refl
greatest_from (n ∷ ns) (suc i) d l = greatest_from ns i d (omega arith)

-- the number of a triangle is that of its last maker's slot
pub number_in : (slots : List Slot) (t : Triangle) (place : ℕ) → numbers_in slots ≡ round_numbers (flips_in slots) → last_where (λ s. slot_makes s t) slots ≡ Some place → slot_number (get_or slots place None) ≡ last_numbers (flips_in slots) t
number_in slots t place numbered w =
    let h = holds slots t place w in
    let n = number_at_rank slots place h.0 h.1 in
    ap slot_number h.1 ∙ sym n.1 ∙ ap (λ ns. get_or ns (rank slots place) 0) numbered
    ∙ sym (number_of_last (flips_in slots) t ∙ ap (number_at (round_numbers (flips_in slots)) 0) (maker_in slots t ∙ ap (ranked slots) w))

pub none_in : (slots : List Slot) (t : Triangle) → last_where (λ s. slot_makes s t) slots ≡ None → 0 ≡ last_numbers (flips_in slots) t
none_in slots t w = sym (number_of_last (flips_in slots) t ∙ ap (number_at (round_numbers (flips_in slots)) 0) (maker_in slots t ∙ ap (ranked slots) w))
