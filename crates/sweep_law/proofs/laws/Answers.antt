use Rattle.sweep_law.proofs.Proved.{sweep_orders_are_unique, first_points_are_alone, sweeps_join_what_is_seen, boundaries_grow}
use Rattle.sweep_law.proofs.laws.Goals as goal

pub returns : goal.returns
returns _ = record { sweep_orders_are_unique = sweep_orders_are_unique; first_points_are_alone = first_points_are_alone; sweeps_join_what_is_seen = sweeps_join_what_is_seen; boundaries_grow = boundaries_grow }
