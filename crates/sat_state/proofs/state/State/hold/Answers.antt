use Rattle.std.proofs.Common.{◌≢◌, ◌<◌, length, Contains, sym, subst}
use Rattle.log_law.specs.declared.Lit.{Lit}
use Rattle.log_law.specs.Clauses.{IsClause}
use Rattle.log_law.specs.SearchLaws.{IsFresh}
use Rattle.sat_state.specs.Searches.{Search}
use Rattle.sat_state.proofs.States.{state_holds}
use Rattle.sat_state.proofs.state.State.hold.Goals as goal

pub invariant_of-self-2 : goal.invariant_of-self-2
invariant_of-self-2 c =
    let fit = subst (λ (s : Search). IsClause s.variables c.args.clause) (sym c.self.view_is) c.requires.fits in
    let few = subst (λ (s : Search). length s.clauses < 4_000_000_000) (sym c.self.view_is) c.requires.room in
    let second = subst
    (λ (s : Search). 0 < s.level → (k : Lit) × (l : Lit) × Contains c.args.clause k × Contains c.args.clause l × (k ≢ l) × IsFresh s.trail s.level k × IsFresh s.trail s.level l)
    (sym c.self.view_is) c.requires.second in
    state_holds c.self.inside.table c.hold.new.self c.self.inside.level c.self.inside.looked c.self.inside.seen c.args.clause c.self.invariant c.in_ok-hold.ensures.ok fit few second
