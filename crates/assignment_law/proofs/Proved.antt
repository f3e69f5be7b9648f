-- Each law of assignments, proved, under its name.
use Rattle.assignment_law.specs.Laws.{PotentialsShowGreatestSum, GreatestSumIsBest}
use Rattle.assignment_law.proofs.Best.{potentials_best, greatest_sum_best}

pub potentials_show_greatest_sum : PotentialsShowGreatestSum
potentials_show_greatest_sum weight n assignment u v A above meets = potentials_best weight u v n assignment A above meets

pub greatest_sum_is_best : GreatestSumIsBest
greatest_sum_is_best weight n assignment h = greatest_sum_best weight n assignment h
