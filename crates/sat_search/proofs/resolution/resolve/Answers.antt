use Rattle.std.proofs.Common.{◌⊎◌, ◌<◌, Contains, subst, arith}
use Rattle.log_law.specs.Trails.{step_at}
use Rattle.sat_search.specs.declared.resolution.Resolution.{Resolution}
use Rattle.sat_search.proofs.Resolving.{resolved_last, resolved_ground}
use Rattle.sat_search.proofs.resolution.resolve.Goals as goal
use Rattle.sat_search.proofs.resolution.resolve.Goals.{then-level-gt0+in_ok-go_to_last, else-level-gt0}

pub returns-clause-ends : goal.returns-clause-ends
returns-clause-ends c =
    elim c.if-level-gt0.branch [
      | then-level-gt0+in_ok-go_to_last w ↦ resolved_last c.args.state.now c.requires.search w.go_to_last.new.r.pending.keys w.go_to_last.new.r.left.items c.go_over_ground.new.r.left.items (omega (arith, w.if-level-gt0.true, c.level.ensures.level)) w.in_ok-go_to_last.ensures.last
          (λ p. subst (λ (r : Resolution). Contains r.left.items p → Contains c.go_over_ground.new.r.left.items p) w.r-is (c.in_ok-go_over_ground.ensures.stay p))
          (λ p. subst (λ (r : Resolution). Contains c.go_over_ground.new.r.left.items p → Contains r.left.items p ⊎ (Contains r.pending.keys p × (0 < (step_at c.args.state.now.trail p).level))) w.r-is (c.in_ok-go_over_ground.ensures.left p))
      | else-level-gt0 w ↦ resolved_ground c.args.state.now c.requires.search c.in_ok-r.r.pending.keys c.in_ok-r.r.left.items c.go_over_ground.new.r.left.items (omega (arith, w.if-level-gt0.false, c.level.ensures.level)) c.in_ok-r.ensures.left c.in_ok-r.ensures.resolving.pending_within
          (λ p. subst (λ (r : Resolution). Contains c.go_over_ground.new.r.left.items p → Contains r.left.items p ⊎ (Contains r.pending.keys p × (0 < (step_at c.args.state.now.trail p).level))) w.r-is (c.in_ok-go_over_ground.ensures.left p))
    ]
