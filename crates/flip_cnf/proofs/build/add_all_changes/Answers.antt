use Rattle.std.proofs.Common.{arith}
use Rattle.std.specs.List.{range_with_len}
use Rattle.formula_law.specs.Formula.{change_clauses, there, made}
use Rattle.formula_parts.proofs.Appending.{begun, takes_number, added_number, done_number}
use Rattle.flip_cnf.proofs.build.add_all_changes.Goals as goal

pub loop-t-init : goal.loop-t-init
loop-t-init c = begun (change_clauses c.args.lists.now (there c.args.lists.now) (made c.args.lists.now c.args.k)) (range_with_len 0 c.args.k) c.args.cnf.now

pub add_changes-requires-clause-takes : goal.add_changes-requires-clause-takes
add_changes-requires-clause-takes c = takes_number (change_clauses c.args.lists.now (there c.args.lists.now) (made c.args.lists.now c.args.k)) c.args.k c.args.cnf.now c.loop-t.t c.loop-t.cnf (omega (arith, c.loop-t-test.true)) c.requires.takes c.loop-t.invariant

pub loop-t-preserved : goal.loop-t-preserved
loop-t-preserved c = added_number (change_clauses c.args.lists.now (there c.args.lists.now) (made c.args.lists.now c.args.k)) c.args.k c.args.cnf.now c.loop-t.t c.loop-t.cnf c.add_changes.new.cnf (omega (arith, c.loop-t-test.true)) c.loop-t.invariant c.in_ok-add_changes.ensures

pub returns : goal.returns
returns c = done_number (change_clauses c.args.lists.now (there c.args.lists.now) (made c.args.lists.now c.args.k)) c.args.k c.args.cnf.now c.loop-t.t c.loop-t.cnf (omega (arith, c.loop-t-test.false)) c.loop-t.invariant
