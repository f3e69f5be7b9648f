use Rattle.std.proofs.Common.{length}
use Rattle.match_bound.proofs.Flips.{before_within, flip_on, flip_ends, hole_in, filled_matching}
use Rattle.match_bound.proofs.search.flip.Goals as goal

pub hand_on-requires : goal.hand_on-requires
hand_on-requires c =
    let F = c.loop-hole.invariant in
    (before_within c.args.labels.now c.args.end c.args.target c.args.image.now c.loop-hole.image c.requires.rooted c.loop-hole.hole F c.in-Some.before c.in-Some.is, hole_in (length c.args.labels.now) c.args.target c.loop-hole.image F.matching c.loop-hole.hole F.below F.free)

pub loop-hole-preserved : goal.loop-hole-preserved
loop-hole-preserved c = flip_on c.args.labels.now c.args.end c.args.target c.args.image.now c.loop-hole.image c.requires.rooted c.loop-hole.hole c.loop-hole.invariant c.in-Some.before c.in-Some.is c.hand_on.new.image c.hand_on.ensures

pub returns-clause-matching : goal.returns-clause-matching
returns-clause-matching c = let F = c.loop-hole.invariant in filled_matching (length c.args.labels.now) c.args.target c.loop-hole.image F.matching c.loop-hole.hole F.below F.free

pub returns-clause-flipped : goal.returns-clause-flipped
returns-clause-flipped c = flip_ends c.args.labels.now c.args.end c.args.target c.args.image.now c.loop-hole.image c.requires.rooted c.loop-hole.hole c.loop-hole.invariant c.in_default.is
