use Rattle.std.proofs.Common.{◌≡◌, length, take}
use Rattle.book_core.specs.HeldBooks.{ground_of}
use Rattle.worker_pool.specs.Runs.{AreTurnsInOrder}
use Rattle.worker_pool.proofs.run.take_turns.Given as goal

abbrev pub invariant-loop-u : goal.invariant-loop-u
invariant-loop-u l =
    (length l.outcomes ≡ length l.fn.outcomes) × (ground_of l.book ≡ ground_of l.fn.book) × AreTurnsInOrder l.fn.limits l.fn.frame (ground_of l.fn.book) l.book.journal (take l.u l.outcomes)
