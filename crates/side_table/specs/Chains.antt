-- Places in chains: each place that has a key is in the chain of that key, which goes from its last place back.
use Rattle.std.specs.Prelude.{◌≡◌, ℕ, suc, ◌<◌, ◌≤◌, Bool, true, false, cond, ◌==◌, List, [], ◌∷◌, length, take, slice_index_or, Option, Some, None}

-- the bucket of a place, or none while it is in no chain
abbrev pub Key : Type 0
Key = Option ℕ

-- the place of the last key that passes the test, if one does
abbrev pub last_where : (Key → Bool) → List Key → Option ℕ
last_where test [] = None
last_where test (key ∷ keys) = elim (last_where test keys) [ Some place ↦ Some (suc place) | None ↦ cond (test key) (Some 0) None ]

-- the key is b
abbrev pub is_in : ℕ → Key → Bool
is_in b None = false
is_in b (Some k) = k == b

-- each bucket has its last place, and each place in a bucket the one before it there
pub record AreChained (heads before : List (Option ℕ)) (keys : List Key) : Type 0 where
  pub last : (b : ℕ) → b < length heads → slice_index_or heads b None ≡ last_where (is_in b) keys
  pub long : length before ≡ length keys
  pub earlier : (i b : ℕ) → i < length keys → is_in b (slice_index_or keys i None) ≡ true → slice_index_or before i None ≡ last_where (is_in b) (take i keys)

-- they are the chains of some keys
pub record IsChained (heads before : List (Option ℕ)) : Type 0 where
  pub keys : List Key
  pub chained : AreChained heads before keys

-- how many keys a place in a chain has before it: all, or those before the one at the place
abbrev pub before_next : List Key → Option ℕ → ℕ
before_next keys None = length keys
before_next keys (Some j) = j

-- the next of a bucket's places after a place, or none: what stands before it in the chain isn't after the place
pub record IsNext (b : ℕ) (keys : List Key) (place : ℕ) (next : Option ℕ) : Type 0 where
  pub passed : place < before_next keys next
  pub within : (j : ℕ) → next ≡ Some j → (j < length keys) × (is_in b (slice_index_or keys j None) ≡ true)
  pub low : (i : ℕ) → last_where (is_in b) (take (before_next keys next) keys) ≡ Some i → i ≤ place

-- where the walk to that place stands: `next` was passed last, and `at` is the bucket's last place before it
pub record IsSought (b : ℕ) (keys : List Key) (place : ℕ) (next at : Option ℕ) : Type 0 where
  pub passed : place < before_next keys next
  pub within : (j : ℕ) → next ≡ Some j → (j < length keys) × (is_in b (slice_index_or keys j None) ≡ true)
  pub stands : at ≡ last_where (is_in b) (take (before_next keys next) keys)
