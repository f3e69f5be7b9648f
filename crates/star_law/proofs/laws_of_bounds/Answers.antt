use Rattle.star_law.proofs.Proved.{justified_rows_are_true, met_rows_are_exact, stars_bound_plans, assignments_rearrange, rearranged_are_assignments, best_assignments_are_best, rows_are_apart, earned_rows_make_best_stars}
use Rattle.star_law.proofs.laws_of_bounds.Goals as goal

pub returns : goal.returns
returns _ = record {
  justified_rows_are_true = justified_rows_are_true;
  met_rows_are_exact = met_rows_are_exact;
  stars_bound_plans = stars_bound_plans;
  assignments_rearrange = assignments_rearrange;
  rearranged_are_assignments = rearranged_are_assignments;
  best_assignments_are_best = best_assignments_are_best;
  rows_are_apart = rows_are_apart;
  earned_rows_make_best_stars = earned_rows_make_best_stars;
}
