use Rattle.std.proofs.Common.{◌-◌, get_or, sym, subst, arith}
use Rattle.round_pack.specs.Groups.{AreRoundSets, PutsEdge}
use Rattle.flip_list_law.specs.declared.Flip.{Flip}
use Rattle.round_pack.proofs.Groups.{number_range, round_more, all_rounds}
use Rattle.round_pack.proofs.group.round_sets.Goals as goal

pub bounds-numbers-i : goal.bounds-numbers-i
bounds-numbers-i c = (number_range c.args.flips.now c.args.numbers.now c.loop-i.i c.requires c.loop-i-test.true).0

pub overflow_sub-before : goal.overflow_sub-before
overflow_sub-before c = (number_range c.args.flips.now c.args.numbers.now c.loop-i.i c.requires c.loop-i-test.true).1

pub put-requires : goal.put-requires
put-requires c =
    let r = number_range c.args.flips.now c.args.numbers.now c.loop-i.i c.requires c.loop-i-test.true in let e = c.loop-i.invariant.count_is in
    let low = r.1 in let high = r.2 in omega arith

pub loop-i-preserved : goal.loop-i-preserved
loop-i-preserved c =
    subst (AreRoundSets c.put.new.sets.items c.args.flips.now c.args.numbers.now) (omega arith)
    (round_more c.loop-i.sets.items c.put.new.sets.items c.args.flips.now c.args.numbers.now c.loop-i.i c.index-flips-i.result c.loop-i-test.true c.index-flips-i.is
    (number_range c.args.flips.now c.args.numbers.now c.loop-i.i c.requires c.loop-i-test.true).1
    (subst (λ (y : Flip). PutsEdge c.loop-i.sets.items c.put.new.sets.items (get_or c.args.numbers.now c.loop-i.i 0 - 1) y.edge) (sym c.index-flips-i.is) c.in_ok-put.ensures) c.loop-i.invariant)

pub returns : goal.returns
returns c = all_rounds c.loop-i.sets.items c.args.flips.now c.args.numbers.now c.loop-i.i c.loop-i.auto.i-end c.loop-i-test.false c.loop-i.invariant
