-- Flips found by their images: a chain for each bucket, from its last flip back.
use Rattle.std.specs.Prelude.{◌≡◌, ℕ, suc, ◌+◌, ◌*◌, ◌%◌, ◌<◌, ◌≤◌, ◌&&◌, Bool, true, false, cond, max, ◌==◌, List, [], ◌∷◌, length, take, slice_index_or, Option, Some, None}
use Rattle.flip_list_law.specs.declared.Flip.{Flip}
use Rattle.flip_list_law.specs.FlipLists.{Triangle, one_side, other_side, same_place}
use Rattle.round_pack.specs.Slots.{Slot, slot_makes}

-- the place of the last slot that passes the test, if one does
abbrev pub last_where : (Slot → Bool) → List Slot → Option ℕ
last_where test [] = None
last_where test (slot ∷ slots) = elim (last_where test slots) [ Some place ↦ Some (suc place) | None ↦ cond (test slot) (Some 0) None ]

-- the bucket of an edge among so many, by its ends
unfoldable pub bucket : ℕ → ℕ → ℕ → ℕ
bucket count low high = (low * 31 + high) % count

-- the image of the slot's flip belongs to the bucket
abbrev pub is_in : ℕ → ℕ → Slot → Bool
is_in count b None = false
is_in count b (Some entry) = bucket count entry.flip.image.0 entry.flip.image.1 == b

-- each bucket has the place of its last flip, and each flip that of the one before it in its bucket
pub record AreChained (heads before : List (Option ℕ)) (slots : List Slot) : Type 0 where
  pub some : 0 < length heads
  pub last : (b : ℕ) → b < length heads → slice_index_or heads b None ≡ last_where (is_in (length heads) b) slots
  pub long : length before ≡ length slots
  pub earlier : (i b : ℕ) → i < length slots → is_in (length heads) b (slice_index_or slots i None) ≡ true → slice_index_or before i None ≡ last_where (is_in (length heads) b) (take i slots)

-- the later of two places
abbrev pub later : Option ℕ → Option ℕ → Option ℕ
later None place = place
later (Some i) None = Some i
later (Some i) (Some j) = Some (max i j)

-- each image has its lower end first
abbrev pub AreOrdered : List Flip → Type 0
AreOrdered flips = (i : ℕ) (d : Flip) → i < length flips → (slice_index_or flips i d).image.0 ≤ (slice_index_or flips i d).image.1

-- where a walk along a bucket stands: `at` is the last of the bucket's flips among so many, and the ones after those don't make the triangle
pub record IsWalked (count b : ℕ) (slots : List Slot) (t : Triangle) (at : Option ℕ) : Type 0 where
  pub left : ℕ
  pub within : left ≤ length slots
  pub stands : at ≡ last_where (is_in count b) (take left slots)
  pub passed : last_where (λ s. is_in count b s && slot_makes s t) slots ≡ last_where (λ s. is_in count b s && slot_makes s t) (take left slots)

-- how many slots a place in a bucket's chain has before it: all, or those before the one at the place
abbrev pub before_next : List Slot → Option ℕ → ℕ
before_next slots None = length slots
before_next slots (Some j) = j

-- the next of the bucket's flips after a place, or none
pub record IsNext (count b : ℕ) (slots : List Slot) (place : ℕ) (next : Option ℕ) : Type 0 where
  pub within : (j : ℕ) → next ≡ Some j → (j < length slots) × (is_in count b (slice_index_or slots j None) ≡ true)
  pub last : last_where (is_in count b) (take (before_next slots next) slots) ≡ Some place

-- where the walk to that flip stands: `next` was passed last, and `at` is the bucket's last flip before it
pub record IsSought (count b : ℕ) (slots : List Slot) (place : ℕ) (next at : Option ℕ) : Type 0 where
  pub passed : place < before_next slots next
  pub within : (j : ℕ) → next ≡ Some j → (j < length slots) × (is_in count b (slice_index_or slots j None) ≡ true)
  pub stands : at ≡ last_where (is_in count b) (take (before_next slots next) slots)

-- the slot of the one flip that last made both triangles at a flip's edge
abbrev pub undone_slot : List Slot → Flip → Option ℕ
undone_slot slots flip = same_place (last_where (λ s. slot_makes s (one_side flip)) slots) (last_where (λ s. slot_makes s (other_side flip)) slots)
