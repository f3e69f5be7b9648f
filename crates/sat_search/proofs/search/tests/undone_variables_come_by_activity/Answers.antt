use Rattle.std.proofs.Common.{refl, ap}
use Rattle.sat_state.specs.Searches.{Search}
use Rattle.sat_search.proofs.Learning.{back_at}
use Rattle.sat_search.proofs.Waiting.{ready_kept, ready_same, ready_back}
use Rattle.sat_search.proofs.search.tests.undone_variables_come_by_activity.Goals as goal

pub next-requires : goal.next-requires
next-requires g c =
    ready_same (back_at c.go_on.new.state 0) c.back.new.self c.release.new.self c.release.new.self (ap (λ (s : Search). s.variables) c.back.ensures) (ap (λ (s : Search). s.trail) c.back.ensures) refl
    (ready_back c.go_on.new.state 0 c.raise.new.self c.release.new.self (ready_kept c.in_ok-raise.ensures c.go_on.ensures.ready) c.in_ok-release.ensures.kept c.in_ok-release.ensures.freed)
