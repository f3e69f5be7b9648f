use Rattle.std.proofs.Common.{◌∙◌}
use Rattle.sat_search.proofs.Resolving.{told_level}
use Rattle.sat_search.proofs.resolution.level_at.Goals as goal

pub returns : goal.returns
returns c = c.unwrap_or.ensures ∙ told_level c.args.state.now c.requires.search c.args.place c.trail_at.result c.level_of.result c.requires.within c.trail_at.ensures c.level_of.ensures
