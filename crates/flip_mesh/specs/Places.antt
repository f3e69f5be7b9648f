-- The place of a way in an ordered list of sides.
use Rattle.std.specs.Prelude.{◌≡◌, ℕ, ◌+◌, ◌<◌, ◌≤◌, List, length, slice_index_or}
use Rattle.edge_table.specs.Edges.{IsBefore}
use Rattle.side_table.specs.declared.side.Side.{Side}

-- the way from u to v stands at this place
pub record IsSideAt (sides : List Side) (u v i : ℕ) : Type 0 where
  pub within : i < length sides
  pub from : (d : Side) → (slice_index_or sides i d).from ≡ u
  pub to : (d : Side) → (slice_index_or sides i d).to ≡ v

-- the way from u to v isn't there, and belongs at this place
pub record SideBelongsAt (sides : List Side) (u v i : ℕ) : Type 0 where
  pub within : i ≤ length sides
  pub below : (k : ℕ) (d : Side) → k < i → IsBefore ((slice_index_or sides k d).from, (slice_index_or sides k d).to) (u, v)
  pub above : (k : ℕ) (d : Side) → i ≤ k → k < length sides → IsBefore (u, v) ((slice_index_or sides k d).from, (slice_index_or sides k d).to)

-- the way from u to v stands between these two places, if it is there
pub record LiesBetween (sides : List Side) (u v low high : ℕ) : Type 0 where
  pub ordered : low ≤ high
  pub within : high ≤ length sides
  pub below : (k : ℕ) (d : Side) → k < low → IsBefore ((slice_index_or sides k d).from, (slice_index_or sides k d).to) (u, v)
  pub above : (k : ℕ) (d : Side) → high ≤ k → k < length sides → IsBefore (u, v) ((slice_index_or sides k d).from, (slice_index_or sides k d).to)

-- the sides from lower points than u stand before this place, and the others from it on
pub record BeginsAt (sides : List Side) (u i : ℕ) : Type 0 where
  pub within : i ≤ length sides
  pub below : (k : ℕ) (d : Side) → k < i → (slice_index_or sides k d).from < u
  pub after : (k : ℕ) (d : Side) → i ≤ k → k < length sides → u ≤ (slice_index_or sides k d).from

-- the places where the sides of each of so many points begin, and where those of the next point would
pub record AreBegins (sides : List Side) (points : ℕ) (begins : List ℕ) : Type 0 where
  pub long : length begins ≡ points + 1
  pub begin : (u d : ℕ) → u ≤ points → BeginsAt sides u (slice_index_or begins u d)
