use Rattle.std.proofs.Common.{◌≡◌, sym, subst}
use Rattle.formula_law.specs.Frames.{Frame}
use Rattle.formula_parts.specs.Building.{pair_at}
use Rattle.formula_parts.specs.Lists.{edge_at, linked}
use Rattle.pruned_cnf.specs.Queries.{live_in}
use Rattle.pruned_cnf.specs.Sizes.{is_live_pair}
use Rattle.pruned_cnf.proofs.Held.{and_then, and_else}
use Rattle.pruned_cnf.proofs.sizing.is_live_pair.Goals as goal

pub returns-then-is_live : goal.returns-then-is_live
returns-then-is_live c =
    let pair = subst (λ (F : Frame). pair_at F.crossings c.args.m ≡ linked F.segments c.crossing-a.result) c.lists.ensures.lists c.crossing-a.ensures.pair in
    subst (λ g. c.is_live-then-is_live.result ≡ is_live_pair c.args.query.now c.args.t g) (sym pair) (and_then c.if-is_live.true c.is_live.ensures c.is_live-then-is_live.ensures)

pub returns-else-is_live : goal.returns-else-is_live
returns-else-is_live c =
    let F = c.args.query.now.frame in
    let pair = subst (λ (F : Frame). pair_at F.crossings c.args.m ≡ linked F.segments c.crossing-a.result) c.lists.ensures.lists c.crossing-a.ensures.pair in
    subst (λ g. c.is_live.result ≡ is_live_pair c.args.query.now c.args.t g) (sym pair) (and_else (live_in c.args.query.now c.args.t (edge_at F.segments c.crossing-a.result.1)) c.if-is_live.false c.is_live.ensures)
