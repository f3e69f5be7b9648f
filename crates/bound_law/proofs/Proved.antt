-- Each law of copies and of the assignment bound, proved, under its name.
use Rattle.bound_law.specs.Laws.{CopiesAreCounted, CopiesAreInOrder, CopiesAreInputs, UnitWeightsCopyOnce, UnitWeightsKeepBounds, CopiesArePlans, CopiesKeepBounds, PlansJoinInputs, AssignmentsBoundPlans}
use Rattle.bound_law.proofs.Bounded.{plan_joins}
use Rattle.std.specs.Prelude.{[]}
use Rattle.tri_theory.proofs.Copies.{copies_counted, copies_in_order, copies_items}
use Rattle.bound_law.proofs.Copies.{copied_once, unit_bound, copies_plan, copies_total, copies_bounds, weights_bound}

pub copies_are_counted : CopiesAreCounted
copies_are_counted inputs weights W = copies_counted weights inputs W.one_each

pub copies_are_in_order : CopiesAreInOrder
copies_are_in_order weights t n l h = copies_in_order weights t n l h

pub copies_are_inputs : CopiesAreInputs
copies_are_inputs inputs weights c W l = copies_items weights inputs c [] W.one_each l

pub unit_weights_copy_once : UnitWeightsCopyOnce
unit_weights_copy_once inputs = copied_once inputs

pub unit_weights_keep_bounds : UnitWeightsKeepBounds
unit_weights_keep_bounds n lower assignment A = unit_bound n lower assignment A

pub copies_are_plans : CopiesArePlans
copies_are_plans points inputs weights centre schedules p = (copies_plan points centre weights inputs schedules p, copies_total weights schedules)

pub copies_keep_bounds : CopiesKeepBounds
copies_keep_bounds points inputs weights lower W L = copies_bounds points weights inputs lower W.one_each L

pub plans_join_inputs : PlansJoinInputs
plans_join_inputs points inputs centre schedules i j P I p hi hj = plan_joins points inputs centre schedules i j P I p hi hj

pub assignments_bound_plans : AssignmentsBoundPlans
assignments_bound_plans points inputs weights centre schedules lower assignment P I W p L A = weights_bound points weights inputs centre schedules lower assignment P I W p L A
