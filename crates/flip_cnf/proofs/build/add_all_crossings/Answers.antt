use Rattle.std.proofs.Common.{◌+◌, arith}
use Rattle.std.specs.List.{range_with_len}
use Rattle.formula_law.specs.Formula.{crossing_clauses, there}
use Rattle.formula_parts.proofs.Appending.{begun, takes_number, added_number, done_number}
use Rattle.flip_cnf.proofs.build.add_all_crossings.Goals as goal

pub loop-t-init : goal.loop-t-init
loop-t-init c = begun (crossing_clauses c.args.lists.now (there c.args.lists.now)) (range_with_len 0 (c.args.k + 1)) c.args.cnf.now

pub add_crossings-requires-clause-takes : goal.add_crossings-requires-clause-takes
add_crossings-requires-clause-takes c = takes_number (crossing_clauses c.args.lists.now (there c.args.lists.now)) (c.args.k + 1) c.args.cnf.now c.loop-t.t c.loop-t.cnf (omega (arith, c.loop-t-test.true)) c.requires.takes c.loop-t.invariant

pub loop-t-preserved : goal.loop-t-preserved
loop-t-preserved c = added_number (crossing_clauses c.args.lists.now (there c.args.lists.now)) (c.args.k + 1) c.args.cnf.now c.loop-t.t c.loop-t.cnf c.add_crossings.new.cnf (omega (arith, c.loop-t-test.true)) c.loop-t.invariant c.in_ok-add_crossings.ensures

pub returns : goal.returns
returns c = done_number (crossing_clauses c.args.lists.now (there c.args.lists.now)) (c.args.k + 1) c.args.cnf.now c.loop-t.t c.loop-t.cnf (omega (arith, c.loop-t-test.false)) c.loop-t.invariant
