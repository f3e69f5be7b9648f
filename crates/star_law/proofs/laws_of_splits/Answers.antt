use Rattle.star_law.proofs.Proved.{splits_are_all, splits_are_in_order, splits_are_counted, splits_bound_three, pairs_bound_three}
use Rattle.star_law.proofs.laws_of_splits.Goals as goal

pub returns : goal.returns
returns _ = record {
  splits_are_all = splits_are_all;
  splits_are_in_order = splits_are_in_order;
  splits_are_counted = splits_are_counted;
  splits_bound_three = splits_bound_three;
  pairs_bound_three = pairs_bound_three;
}
