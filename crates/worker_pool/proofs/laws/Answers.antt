use Rattle.worker_pool.proofs.Fit.{fresh_answers_are_taken, late_answers_are_stale}
use Rattle.worker_pool.proofs.laws.Goals as goal

pub returns : goal.returns
returns _ = record { fresh_answers_are_taken = fresh_answers_are_taken; late_answers_are_stale = late_answers_are_stale }
