use Rattle.std.proofs.Common.{◌≡◌, ◌∙◌, length, ap, subst, arith}
use Rattle.std.specs.Prelude.{filter, nat_le}
use Rattle.log_law.specs.declared.Step.{Step}
use Rattle.sat_state.specs.Searches.{Search}
use Rattle.sat_state.proofs.States.{state_back, back_here}
use Rattle.sat_state.proofs.state.State.back.Goals as goal

pub invariant_of-self : goal.invariant_of-self
invariant_of-self c =
    state_back c.self.inside.table c.drop_above.new.table c.self.inside.level c.args.level c.self.inside.looked c.self.inside.seen c.len-self-inside.result c.len-self-inside-then-level-self.result
    c.self.invariant c.if-level-self.true c.drop_above.ensures.steps c.drop_above.ensures.levelled (c.len-self-inside.ensures.steps ∙ ap length c.steps.ensures.steps) c.len-self-inside-then-level-self.ensures.clauses

pub returns-else-level-self : goal.returns-else-level-self
returns-else-level-self c =
    let top = ap (λ (s : Search). s.level) c.self.view_is in
    let e : c.self.inside.level ≡ c.args.level = omega (arith, top, c.if-level-self.false, c.requires) in
    subst (λ (s : Search). s ≡ record s { trail = filter (λ (x : Step). nat_le x.level c.args.level) s.trail; level = c.args.level }) c.self.view_is
    (back_here c.self.inside.table c.self.inside.level c.args.level e c.self.invariant.levelled)
