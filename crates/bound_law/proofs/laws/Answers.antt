use Rattle.bound_law.proofs.Proved.{copies_are_counted, copies_are_in_order, copies_are_inputs, unit_weights_copy_once, unit_weights_keep_bounds, copies_are_plans, copies_keep_bounds, plans_join_inputs, assignments_bound_plans}
use Rattle.bound_law.proofs.laws.Goals as goal

pub returns : goal.returns
returns _ = record {
  copies_are_counted = copies_are_counted;
  copies_are_in_order = copies_are_in_order;
  copies_are_inputs = copies_are_inputs;
  unit_weights_copy_once = unit_weights_copy_once;
  unit_weights_keep_bounds = unit_weights_keep_bounds;
  copies_are_plans = copies_are_plans;
  copies_keep_bounds = copies_keep_bounds;
  plans_join_inputs = plans_join_inputs;
  assignments_bound_plans = assignments_bound_plans;
}
