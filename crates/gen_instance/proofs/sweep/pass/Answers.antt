use Rattle.std.proofs.lemmas.Result.{on_ok_weaker}
use Rattle.gen_instance.proofs.Passing.{point_named, rights_named, lefts_named, passes}
use Rattle.gen_instance.proofs.sweep.pass.Goals as goal

pub first_seen-i-requires-clause-named : goal.first_seen-i-requires-clause-named
first_seen-i-requires-clause-named c = rights_named c.args.points.now c.args.direction.a c.args.direction.b c.args.order.now c.args.place c.args.sweep.now c.requires.points c.requires.direction c.requires.order c.requires.place c.requires.sweep c.as_slice.result.now c.as_slice.ensures.value

pub first_seen-i-requires-clause-point : goal.first_seen-i-requires-clause-point
first_seen-i-requires-clause-point c = point_named c.args.points.now c.args.direction.a c.args.direction.b c.args.order.now c.args.place c.args.sweep.now c.requires.points c.requires.direction c.requires.order c.requires.place c.requires.sweep

pub first_seen-j-requires-clause-named : goal.first_seen-j-requires-clause-named
first_seen-j-requires-clause-named c = lefts_named c.args.points.now c.args.direction.a c.args.direction.b c.args.order.now c.args.place c.args.sweep.now c.requires.points c.requires.direction c.requires.order c.requires.place c.requires.sweep c.as_slice-2.result.now c.as_slice-2.ensures.value

pub first_seen-j-requires-clause-point : goal.first_seen-j-requires-clause-point
first_seen-j-requires-clause-point c = point_named c.args.points.now c.args.direction.a c.args.direction.b c.args.order.now c.args.place c.args.sweep.now c.requires.points c.requires.direction c.requires.order c.requires.place c.requires.sweep

pub taken-requires-clause-rights : goal.taken-requires-clause-rights
taken-requires-clause-rights c = rights_named c.args.points.now c.args.direction.a c.args.direction.b c.args.order.now c.args.place c.args.sweep.now c.requires.points c.requires.direction c.requires.order c.requires.place c.requires.sweep c.as_slice-3.result.now c.as_slice-3.ensures.value

pub taken-requires-clause-lefts : goal.taken-requires-clause-lefts
taken-requires-clause-lefts c = lefts_named c.args.points.now c.args.direction.a c.args.direction.b c.args.order.now c.args.place c.args.sweep.now c.requires.points c.requires.direction c.requires.order c.requires.place c.requires.sweep c.as_slice-4.result.now c.as_slice-4.ensures.value

pub returns : goal.returns
returns c =
    on_ok_weaker c.turn_to-2.result
    (passes c.args.points.now c.args.direction.a c.args.direction.b c.args.order.now c.args.place c.args.sweep.now c.requires.points c.requires.direction c.requires.order c.requires.place c.requires.sweep
    c.as_slice.result.now c.as_slice-2.result.now c.as_slice-3.result.now c.as_slice-4.result.now c.in_ok-seen.seen.items c.as_slice-5.result.now c.first_seen-i.result c.first_seen-j.result
    c.as_slice.ensures.value c.as_slice-2.ensures.value c.as_slice-3.ensures.value c.as_slice-4.ensures.value c.as_slice-5.ensures.value c.first_seen-i.ensures c.first_seen-j.ensures c.in_ok-seen.ensures
    (record { pairs = c.list_pairs.new.pairs; rights = c.turn_to.new.chain; lefts = c.turn_to-2.new.chain }) c.in_ok-list_pairs.ensures c.in_ok-turn_to.ensures)
    c.turn_to-2.ensures
