use Rattle.std.proofs.Common.{◌+◌, sym, subst, arith}
use Rattle.log_law.specs.Clauses.{IsVariable}
use Rattle.log_law.specs.Units.{IsUnassigned, IsAtRest}
use Rattle.log_law.specs.Trails.{literals}
use Rattle.sat_state.specs.Searches.{Search}
use Rattle.sat_state.specs.Tables.{Table, IsState}
use Rattle.sat_state.proofs.States.{level_small, state_decides}
use Rattle.sat_state.proofs.state.State.decide.Goals as goal

pub overflow_add-raised : goal.overflow_add-raised
overflow_add-raised c =
    let v = subst (λ (s : Search). IsVariable s.variables c.args.l.var) (sym c.self.view_is) c.requires.in_range in
    let f = subst (λ (s : Search). IsUnassigned (literals s.trail) c.args.l) (sym c.self.view_is) c.requires.unassigned in
    omega (arith, level_small c.self.inside.table c.self.inside.level c.self.inside.looked c.self.inside.seen c.args.l c.self.invariant v f)

pub invariant_of-self : goal.invariant_of-self
invariant_of-self c =
    let r = subst (λ (s : Search). IsAtRest (literals s.trail) s.clauses) (sym c.self.view_is) c.requires.rest in
    let v = subst (λ (s : Search). IsVariable s.variables c.args.l.var) (sym c.self.view_is) c.requires.in_range in
    let f = subst (λ (s : Search). IsUnassigned (literals s.trail) c.args.l) (sym c.self.view_is) c.requires.unassigned in
    subst (λ (t : Table). IsState t (c.self.inside.level + 1) c.self.inside.looked c.self.inside.seen) (sym c.push.ensures)
    (state_decides c.self.inside.table c.self.inside.level c.self.inside.looked c.self.inside.seen c.args.l c.self.invariant r v f)
