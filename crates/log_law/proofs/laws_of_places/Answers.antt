use Rattle.log_law.proofs.Proved.{places_begin, places_go_back, places_assert, places_are_apart}
use Rattle.log_law.proofs.laws_of_places.Goals as goal

pub returns : goal.returns
returns _ = record {
  places_begin = places_begin;
  places_go_back = places_go_back;
  places_assert = places_assert;
  places_are_apart = places_are_apart;
}
