use Rattle.std.proofs.Common.{◌≡◌, ◌-◌, ap, arith}
use Rattle.std.specs.Prelude.{is_some}
use Rattle.log_law.specs.Trails.{step_at}
use Rattle.sat_search.proofs.Waiting.{level_found, low_before, all_freed}
use Rattle.sat_search.proofs.order.Order.release.Goals as goal

pub unwrap-requires : goal.unwrap-requires
unwrap-requires c =
    ap is_some (level_found c.args.state.now c.trail_len-end.ensures.search (c.loop-end.end - 1) (omega arith) c.trail_at-l.result c.level_of.result c.trail_at-l.ensures c.level_of.ensures)

pub returns-then-unwrap-level-clause-freed : goal.returns-then-unwrap-level-clause-freed
returns-then-unwrap-level-clause-freed c =
    let told = level_found c.args.state.now c.trail_len-end.ensures.search (c.loop-end.end - 1) (omega arith) c.trail_at-l.result c.level_of.result c.trail_at-l.ensures c.level_of.ensures in
    let level : c.unwrap.result ≡ (step_at c.args.state.now.trail (c.loop-end.end - 1)).level = cc in
    all_freed c.args.state.now.trail c.args.level c.loop-end.end c.loop-end.self c.loop-end.invariant.freed
    (λ place l b. low_before c.args.state.now c.trail_len-end.ensures.search c.args.level (c.loop-end.end - 1) place (omega arith) (omega arith) (omega arith))

pub returns-clause-freed : goal.returns-clause-freed
returns-clause-freed c = all_freed c.args.state.now.trail c.args.level c.loop-end.end c.loop-end.self c.loop-end.invariant.freed (λ place l b. absurd (omega arith))
