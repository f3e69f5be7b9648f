use Rattle.std.proofs.Common.{◌≤◌, length, ap, subst, arith}
use Rattle.log_law.specs.Units.{IsAtRest}
use Rattle.log_law.specs.Trails.{literals}
use Rattle.log_law.specs.SearchLaws.{IsConflict}
use Rattle.sat_state.specs.Searches.{Search, GoesOn}
use Rattle.sat_state.specs.Tables.{Table}
use Rattle.sat_state.proofs.Settling.{goes_far, goes_long, same_far}
use Rattle.sat_state.proofs.States.{match_from, state_goes, settled_to}
use Rattle.sat_state.proofs.state.State.spread.Goals as goal

pub invariant_of-self : goal.invariant_of-self
invariant_of-self c =
    let first = c.self.inside.table in
    let next = c.spread_new-falsified.new.table in
    let longer = goes_long c.self.inside.level first.steps next.steps c.spread_new-falsified.ensures.goes_on in
    state_goes first next c.self.inside.level c.self.inside.looked c.self.inside.seen c.self.inside.looked c.spread_new-falsified.new.seen c.self.invariant c.spread_new-falsified.ensures.same c.spread_new-falsified.ensures.goes_on c.spread_new-falsified.ensures.search
    (omega (arith, longer, c.self.invariant.looked_within)) c.spread_new-falsified.ensures.within (c.spread_new-falsified.ensures.settled c.self.inside.looked c.self.invariant.looked_within c.self.invariant.settled)

pub invariant_of-self-2 : goal.invariant_of-self-2
invariant_of-self-2 c =
    let first = c.self.inside.table in
    let mid = c.spread_new-falsified.new.table in
    let next = c.spread_along.new.table in
    let n = ap (λ (t : Table). length t.clauses) c.spread_along.ensures.same in
    let seen : c.spread_new-falsified.new.seen ≤ length next.clauses = omega (arith, n, c.spread_new-falsified.ensures.within) in
    state_goes first next c.self.inside.level c.self.inside.looked c.self.inside.seen c.spread_along.new.looked c.spread_new-falsified.new.seen c.self.invariant
    (same_far first mid next c.spread_new-falsified.ensures.same c.spread_along.ensures.same) (goes_far c.self.inside.level first.steps mid.steps next.steps c.spread_new-falsified.ensures.goes_on c.spread_along.ensures.goes_on) c.spread_along.ensures.search
    c.spread_along.ensures.within seen (settled_to next (length next.clauses) c.spread_new-falsified.new.seen c.spread_along.new.looked seen c.spread_along.ensures.settled)

pub returns-clause-goes_on : goal.returns-clause-goes_on
returns-clause-goes_on c =
    subst (λ (s : Search). GoesOn s.level s.trail c.spread_along.new.table.steps) c.self.view_is
    (goes_far c.self.inside.level c.self.inside.table.steps c.spread_new-falsified.new.table.steps c.spread_along.new.table.steps c.spread_new-falsified.ensures.goes_on c.spread_along.ensures.goes_on)

pub returns-clause-rest : goal.returns-clause-rest
returns-clause-rest c =
    match_from c.spread_along.result (IsAtRest (literals c.spread_along.new.table.steps) c.spread_along.new.table.clauses) (λ id. IsConflict c.spread_along.new.table.clauses c.spread_along.new.table.steps id) c.spread_along.ensures.rest c.spread_along.ensures.conflict
