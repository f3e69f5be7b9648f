use Rattle.std.proofs.Common.{arith}
use Rattle.pruned_cnf.proofs.Crossed.{counted_few, counted_more, member_at, one_at_most}
use Rattle.pruned_cnf.proofs.counting.count_pair.Goals as goal

pub count_if-requires-clause-room : goal.count_if-requires-clause-room
count_if-requires-clause-room c =
    let few = counted_few c.args.triang.now.points c.args.lists.now c.requires.frame c.args.triang.now.edges c.args.m c.crossing-a.result.0 c.args.counts.now c.requires.counted c.crossing-a.ensures.within.0 in
    omega (arith, few, c.requires.within, c.crossings.ensures.count, c.crossings.ensures.few)

pub count_if-requires-2-clause-room : goal.count_if-requires-2-clause-room
count_if-requires-2-clause-room c =
    let few = counted_few c.args.triang.now.points c.args.lists.now c.requires.frame c.args.triang.now.edges c.args.m c.crossing-a.result.1 c.args.counts.now c.requires.counted c.crossing-a.ensures.within.1 in
    let one = one_at_most _ _ _ (c.count_if.ensures.each c.crossing-a.result.1) in
    omega (arith, few, one, c.requires.within, c.crossings.ensures.count, c.crossings.ensures.few)

pub returns : goal.returns
returns c =
    counted_more c.args.triang.now.points c.args.lists.now c.requires.frame c.args.triang.now.edges c.args.m c.crossing-a.result.0 c.crossing-a.result.1 _ _ c.args.counts.now c.count_if.new.counts c.count_if-2.new.counts c.requires.counted c.requires.within c.crossing-a.ensures.pair c.crossing-a.ensures.within.0 c.crossing-a.ensures.within.1
    (member_at c.args.lists.now.segments c.args.triang.now.edges c.crossing-a.result.1 c.args.members.now _ c.crossing-a.ensures.within.1 c.requires.members)
    (member_at c.args.lists.now.segments c.args.triang.now.edges c.crossing-a.result.0 c.args.members.now _ c.crossing-a.ensures.within.0 c.requires.members)
    c.count_if.ensures.long c.count_if.ensures.each c.count_if-2.ensures.long c.count_if-2.ensures.each
