-- What contracts see of a versioned lock, of its passes and of a holding.
use Rattle.std.specs.Prelude.{◌≡◌, ℕ, List, Option, Some}
use Rattle.atomic_table.specs.Seated.{TableId}

-- which lock it is, its ground, how many passes were made, and how many entries the value had then
pub record LockView (G : Type 0) : Type 0 where
  pub table : TableId
  pub ground : G
  pub seats : ℕ
  pub start : ℕ

-- of which lock it is, the entries that it has seen, with their ground, and how many entries its own holdings appended
pub record PassView (E G : Type 0) : Type 0 where
  pub table : TableId
  pub ground : Option G
  pub seen : List E
  pub made : ℕ

-- of which lock it is, the entries that were found, how many entries the pass had made before, and the value as it is now
pub record HeldView (X E G : Type 0) : Type 0 where
  pub lock : LockView G
  pub found : List E
  pub made : ℕ
  pub value : X

-- it is a pass of that lock
abbrev pub IsPassOf : {E G : Type 0} → LockView G → PassView E G → Type 0
IsPassOf lock pass = (pass.table ≡ lock.table) × (pass.ground ≡ Some lock.ground)

-- the holding, with another value
abbrev pub with_value : {X E G : Type 0} → HeldView X E G → X → HeldView X E G
with_value held x = record held { value = x }
