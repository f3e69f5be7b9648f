use Rattle.tri_check.proofs.Tables.{joined_at, third_up, third_down}
use Rattle.tri_check.proofs.table.third_at.Goals as goal

pub returns-then-a-b-clause-third : goal.returns-then-a-b-clause-third
returns-then-a-b-clause-third c = third_up c.args.edges.now c.args.table.now c.in_ok-i.i c.in_ok-e.e _ c.args.a c.args.b c.requires.table c.in_ok-i.ensures.there c.in_ok-e.ensures.ends c.if-a-b.true

pub returns-else-a-b-clause-joined : goal.returns-else-a-b-clause-joined
returns-else-a-b-clause-joined c = joined_at c.args.edges.now c.in_ok-i.i c.in_ok-e.e c.args.a c.args.b c.in_ok-i.ensures.there c.in_ok-e.ensures.ends

pub returns-else-a-b-clause-third : goal.returns-else-a-b-clause-third
returns-else-a-b-clause-third c = third_down c.args.edges.now c.args.table.now c.in_ok-i.i c.in_ok-e.e _ c.args.a c.args.b c.requires.table c.in_ok-i.ensures.there c.in_ok-e.ensures.ends c.if-a-b.false
