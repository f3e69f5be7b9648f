-- Flips in order with their round numbers, where some were taken out and left an empty slot.
use Rattle.std.specs.Prelude.{ℕ, zero, suc, Bool, false, Option, Some, None, List, [], ◌∷◌}
use Rattle.flip_list_law.specs.declared.Flip.{Flip}
use Rattle.flip_list_law.specs.FlipLists.{Triangle, makes}
use Rattle.round_pack.specs.declared.slot.Entry.{Entry}

abbrev pub Slot : Type 0
Slot = Option Entry

-- the flips that are there
abbrev pub flips_in : List Slot → List Flip
flips_in [] = []
flips_in (None ∷ slots) = flips_in slots
flips_in (Some entry ∷ slots) = entry.flip ∷ flips_in slots

-- their round numbers
abbrev pub numbers_in : List Slot → List ℕ
numbers_in [] = []
numbers_in (None ∷ slots) = numbers_in slots
numbers_in (Some entry ∷ slots) = entry.number ∷ numbers_in slots

-- how many flips stand before a slot
abbrev pub rank : List Slot → ℕ → ℕ
rank [] i = 0
rank (slot ∷ slots) zero = 0
rank (None ∷ slots) (suc i) = rank slots i
rank (Some entry ∷ slots) (suc i) = suc (rank slots i)

-- the place of a slot's flip among the flips
abbrev pub ranked : List Slot → Option ℕ → Option ℕ
ranked slots None = None
ranked slots (Some i) = Some (rank slots i)

-- the slot's flip makes the triangle
abbrev pub slot_makes : Slot → Triangle → Bool
slot_makes None t = false
slot_makes (Some entry) t = makes entry.flip t

-- a slot's round number, or 0
abbrev pub slot_number : Slot → ℕ
slot_number None = 0
slot_number (Some entry) = entry.number
