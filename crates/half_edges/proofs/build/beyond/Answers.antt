use Rattle.half_edges.proofs.Ways.{swapped}
use Rattle.half_edges.proofs.build.beyond.Goals as goal

pub place-requires-clause-there : goal.place-requires-clause-there
place-requires-clause-there c = (c.requires.directed.members c.args.u c.in-Some.apex).1 (swapped _ _ _ c.in-Some.ensures.corner.ca)

pub place-requires-in-Some-clause-there : goal.place-requires-in-Some-clause-there
place-requires-in-Some-clause-there c = (c.requires.directed.members c.in-Some.apex c.args.v).1 (swapped _ _ _ c.in-Some.ensures.corner.bc)
