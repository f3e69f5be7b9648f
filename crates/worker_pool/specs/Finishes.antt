-- How a book is finished: the moves of settling, and then a best assignment.
use Rattle.std.specs.Prelude.{◌≡◌, ℕ, Bool, true, false, Some, None, List, [], ◌∷◌, ◌++◌, map}
use Rattle.edge_table.specs.declared.edge.Edge.{Edge}
use Rattle.plan_law.specs.Plans.{first_lowering, IsSettled, Settles}
use Rattle.plan_moves.specs.Settlings.{IsOnTheWay}
use Rattle.plan_moves.specs.Ways.{IsBegun}
use Rattle.book_core.specs.declared.entry.Entry.{Entry}
use Rattle.book_core.specs.declared.entry.Entry.TheVariants.{Move, Pack}
use Rattle.book_core.specs.HeldBooks.{HeldBook, ground_of, now_of, with_line}
use Rattle.worker_pool.specs.Outcomes.{IsBestAt}

-- moves as entries of one turn
abbrev pub moves_of : ℕ → List (List Edge) → List Entry
moves_of turn moves = map (λ edges. Move turn edges) moves

-- one assignment of a turn, or nothing
abbrev pub IsPack : ℕ → List Entry → Type 0
IsPack turn [] = Unit {0}
IsPack turn (Pack t perm ∷ []) = t ≡ turn
IsPack turn _ = ⊥

-- so far the first moves of settling stand at the end of the journal
pub record HasSettlingMoves (turn : ℕ) (old new : HeldBook) : Type 0 where
  pub of_ground : ground_of new ≡ ground_of old
  pub moves : List (List Edge)
  pub appended : new.journal ≡ old.journal ++ moves_of turn moves
  pub begun : IsBegun old.problem.points (now_of old).plan moves (now_of new).plan

-- a settling that was left after some of its moves
pub record IsSettlingOn (turn : ℕ) (old new : HeldBook) : Type 0 where
  pub of_ground : ground_of new ≡ ground_of old
  pub way : IsOnTheWay old.problem.points (now_of old).plan (now_of new).plan
  pub appended : new.journal ≡ old.journal ++ moves_of turn way.made

-- no assignment has a greater bound than the one held, which is the one before or stands at the end of the journal
pub record IsPackedOn (turn : ℕ) (old new : HeldBook) : Type 0 where
  pub of_ground : ground_of new ≡ ground_of old
  pub packs : List Entry
  pub pack : IsPack turn packs
  pub appended : new.journal ≡ old.journal ++ packs
  pub same_plan : (now_of new).plan ≡ (now_of old).plan
  pub best : IsBestAt (now_of new) (now_of new).assignment

-- all moves of settling stand at the end of the journal, then the assignment if it raised the bound: no move lowers the total, and no assignment has a greater bound
pub record IsFinished (turn : ℕ) (old new : HeldBook) : Type 0 where
  pub of_ground : ground_of new ≡ ground_of old
  pub moves : List (List Edge)
  pub packs : List Entry
  pub pack : IsPack turn packs
  pub appended : new.journal ≡ old.journal ++ (moves_of turn moves ++ packs)
  pub settles : Settles old.problem.points (now_of old).plan moves (now_of new).plan
  pub settled : IsSettled old.problem.points (now_of new).plan
  pub best : IsBestAt (now_of new) (now_of new).assignment

-- the first move that lowers the total stands at the end of the journal; or there is none, and nothing changes
abbrev pub MovesOn : ℕ → HeldBook → Bool → HeldBook → Type 0
MovesOn turn old true new = (move : List Edge) × (first_lowering old.problem.points (now_of old).plan ≡ Some move) × (new ≡ with_line old (Move turn move))
MovesOn turn old false new = (first_lowering old.problem.points (now_of old).plan ≡ None) × (new ≡ old)
