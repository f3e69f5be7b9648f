use Rattle.assignment_law.proofs.Proved.{potentials_show_greatest_sum, greatest_sum_is_best}
use Rattle.assignment_law.proofs.laws.Goals as goal

pub returns : goal.returns
returns _ = record {
  potentials_show_greatest_sum = potentials_show_greatest_sum;
  greatest_sum_is_best = greatest_sum_is_best;
}
