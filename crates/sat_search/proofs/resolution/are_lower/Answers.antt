use Rattle.sat_search.proofs.Resolving.{all_lower, another_there}
use Rattle.sat_search.proofs.resolution.are_lower.Goals as goal

pub returns-in-Some-clause-lower : goal.returns-in-Some-clause-lower
returns-in-Some-clause-lower c =
    all_lower c.args.state.now c.requires.search c.args.pending.now.keys c.in-Some.place.now c.level_at.result c.level.result c.requires.within c.in-Some.ensures.last c.in-Some.ensures.all_up_to c.level_at.ensures c.level.ensures.level

pub returns-in-Some-clause-another : goal.returns-in-Some-clause-another
returns-in-Some-clause-another c =
    another_there c.args.state.now c.requires.search c.args.pending.now.keys c.in-Some.place.now c.level_at.result c.level.result c.requires.within c.in-Some.ensures.last c.in-Some.ensures.all_up_to c.level_at.ensures c.level.ensures.level
