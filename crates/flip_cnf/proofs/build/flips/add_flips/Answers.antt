use Rattle.std.proofs.Common.{◌<◌, length, arith}
use Rattle.formula_parts.specs.Building.{no_pair}
use Rattle.flip_cnf.specs.Building.{asked}
use Rattle.formula_parts.proofs.Appending.{begun, takes_next, added, done}
use Rattle.flip_cnf.proofs.build.flips.add_flips.Goals as goal

pub loop-n-init : goal.loop-n-init
loop-n-init c = begun (asked c.args.lists.now c.args.k c.args.t) c.args.lists.now.flips c.args.cnf.now

pub add_flip-requires-clause-takes : goal.add_flip-requires-clause-takes
add_flip-requires-clause-takes c =
    let l : c.loop-n.n < length c.args.lists.now.flips = omega (arith, c.loop-n-test.true, c.flips-n-end.ensures.count) in
    takes_next (asked c.args.lists.now c.args.k c.args.t) c.args.lists.now.flips c.args.cnf.now c.loop-n.n no_pair c.loop-n.cnf l c.requires.takes c.loop-n.invariant

pub loop-n-preserved : goal.loop-n-preserved
loop-n-preserved c =
    let l : c.loop-n.n < length c.args.lists.now.flips = omega (arith, c.loop-n-test.true, c.flips-n-end.ensures.count) in
    added (asked c.args.lists.now c.args.k c.args.t) c.args.lists.now.flips c.args.cnf.now c.loop-n.n no_pair c.loop-n.cnf c.add_flip.new.cnf l c.loop-n.invariant c.in_ok-add_flip.ensures

pub returns : goal.returns
returns c = done (asked c.args.lists.now c.args.k c.args.t) c.args.lists.now.flips c.args.cnf.now c.loop-n.n c.loop-n.cnf (omega (arith, c.flips-n-end.ensures.count)) c.loop-n.invariant
