use Rattle.std.proofs.Common.{◌+◌, length, subst}
use Rattle.match_bound.specs.Matchings.{IsMatching}
use Rattle.match_bound.specs.Tables.{weight}
use Rattle.match_bound.proofs.Shifts.{settled_near, next_stage}
use Rattle.match_bound.proofs.search.place.Goals as goal

pub raise-requires-clause-settled : goal.raise-requires-clause-settled
raise-requires-clause-settled c =
    settled_near (weight c.args.w.now) (length c.args.w.now) c.args.target c.args.image.now c.args.u.now c.args.v.now c.requires.stage c.requires.below c.side-side.ensures.table.small c.search-end.new.labels c.search-end.new.reach c.search-end.ensures.tree c.search-end.result c.search-end.ensures.nearest c.search-end.ensures.free

pub returns-clause-stage : goal.returns-clause-stage
returns-clause-stage c =
    next_stage (weight c.args.w.now) (length c.args.w.now) c.args.target c.args.image.now c.args.u.now c.args.v.now c.requires.stage c.requires.below c.side-side.ensures.table.small c.search-end.new.labels c.search-end.new.reach c.search-end.ensures.tree c.search-end.result c.search-end.ensures.nearest c.search-end.ensures.free
    c.raise.new.u c.lower.new.v c.raise.ensures.long c.lower.ensures.long c.raise.ensures.risen c.lower.ensures.fallen c.flip.new.image (subst (λ n. IsMatching n (c.args.target + 1) c.flip.new.image) c.search-end.ensures.tree.labels_long c.flip.ensures.matching) c.flip.ensures.flipped
