-- Sides in slots, in no order, and what is seen of them.
use Rattle.std.specs.Prelude.{◌≡◌, ℕ, ◌+◌, ◌*◌, ◌%◌, ◌<◌, ◌≤◌, cond, List, [], ◌∷◌, length, take, slice_index_or, Option, Some}
use Rattle.edge_table.specs.Edges.{is_before}
use Rattle.side_table.specs.declared.side.Side.{Side}
use Rattle.side_table.specs.Sides.{IsWay}
use Rattle.side_table.specs.Chains.{Key, AreChained, last_where, is_in}

-- the bucket of a way among so many, by its ends
unfoldable pub bucket : ℕ → ℕ → ℕ → ℕ
bucket count from to = (from * 2654435761 + to) % count

-- the buckets of the slots
abbrev pub keys_of : ℕ → List Side → List Key
keys_of count [] = []
keys_of count (s ∷ ss) = Some (bucket count s.from s.to) ∷ keys_of count ss

-- no two are on one way
abbrev pub AreDistinct : List Side → Type 0
AreDistinct sides = (i j : ℕ) (d : Side) → i < length sides → j < length sides → (slice_index_or sides i d).from ≡ (slice_index_or sides j d).from → (slice_index_or sides i d).to ≡ (slice_index_or sides j d).to → i ≡ j

-- the slots have sides on different ways, and are chained by their buckets
pub record AreKept (heads before : List (Option ℕ)) (slots : List Side) : Type 0 where
  pub distinct : AreDistinct slots
  pub buckets : 0 < length slots → 0 < length heads
  pub chained : AreChained heads before (keys_of (length heads) slots)

-- the slot has the way from u to v
pub record IsPlace (slots : List Side) (u v i : ℕ) : Type 0 where
  pub within : i < length slots
  pub way : (d : Side) → IsWay (slice_index_or slots i d) u v

-- where a walk along a bucket stands: `at` is the last of its places among so many, and no slot after those has the way from u to v
pub record IsWalked (b : ℕ) (keys : List Key) (slots : List Side) (u v : ℕ) (at : Option ℕ) : Type 0 where
  pub left : ℕ
  pub within : left ≤ length slots
  pub stands : at ≡ last_where (is_in b) (take left keys)
  pub passed : (i : ℕ) (d : Side) → left ≤ i → i < length slots → ¬ IsWay (slice_index_or slots i d) u v

-- s comes to an ordered list
abbrev pub put_in : Side → List Side → List Side
put_in s [] = s ∷ []
put_in s (t ∷ ts) = cond (is_before (s.from, s.to) (t.from, t.to)) (s ∷ t ∷ ts) (t ∷ put_in s ts)

-- the sides in order
abbrev pub in_order : List Side → List Side
in_order [] = []
in_order (s ∷ ss) = put_in s (in_order ss)
