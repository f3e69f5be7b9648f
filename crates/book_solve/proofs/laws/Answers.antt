use Rattle.book_solve.proofs.Determined.{plans_are_determined}
use Rattle.book_solve.proofs.Finished.{turns_and_finish_solve}
use Rattle.book_solve.proofs.laws.Goals as goal

pub returns : goal.returns
returns _ = record { turns_and_finish_solve = turns_and_finish_solve; plans_are_determined = plans_are_determined }
