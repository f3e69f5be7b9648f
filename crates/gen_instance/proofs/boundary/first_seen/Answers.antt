use Rattle.std.proofs.Common.{◌-◌, arith}
use Rattle.std.proofs.lemmas.List.Elements.{Contains-get_or}
use Rattle.gen_instance.specs.Sides.{side_of}
use Rattle.gen_instance.proofs.Seen.{seen_more}
use Rattle.gen_instance.proofs.boundary.first_seen.Goals as goal

pub is_on-requires-clause-from : goal.is_on-requires-clause-from
is_on-requires-clause-from c = c.requires.named _ (Contains-get_or c.args.chain.now (c.loop-place.place - 1) 0 (let w = c.loop-place.invariant.within in omega (arith, w)))

pub is_on-requires-clause-to : goal.is_on-requires-clause-to
is_on-requires-clause-to c = c.requires.named _ (Contains-get_or c.args.chain.now c.loop-place.place 0 c.loop-place.invariant.within)

pub loop-place-preserved : goal.loop-place-preserved
loop-place-preserved c = seen_more (side_of c.args.side) c.args.points.now c.args.chain.now c.args.p c.loop-place.place c.loop-place.invariant c.loop-place-test.true (c.is_on.ensures.0 c.if-is_on.true)
