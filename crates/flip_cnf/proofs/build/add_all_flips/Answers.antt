use Rattle.std.proofs.Common.{arith}
use Rattle.std.specs.List.{range_with_len}
use Rattle.formula_law.specs.Formula.{flip_clauses, there, made}
use Rattle.formula_parts.proofs.Appending.{begun, takes_number, added_number, done_number}
use Rattle.flip_cnf.proofs.build.add_all_flips.Goals as goal

pub loop-t-init : goal.loop-t-init
loop-t-init c = begun (flip_clauses c.args.lists.now (there c.args.lists.now) (made c.args.lists.now c.args.k)) (range_with_len 0 c.args.k) c.args.cnf.now

pub add_flips-requires-clause-takes : goal.add_flips-requires-clause-takes
add_flips-requires-clause-takes c = takes_number (flip_clauses c.args.lists.now (there c.args.lists.now) (made c.args.lists.now c.args.k)) c.args.k c.args.cnf.now c.loop-t.t c.loop-t.cnf (omega (arith, c.loop-t-test.true)) c.requires.takes c.loop-t.invariant

pub loop-t-preserved : goal.loop-t-preserved
loop-t-preserved c = added_number (flip_clauses c.args.lists.now (there c.args.lists.now) (made c.args.lists.now c.args.k)) c.args.k c.args.cnf.now c.loop-t.t c.loop-t.cnf c.add_flips.new.cnf (omega (arith, c.loop-t-test.true)) c.loop-t.invariant c.in_ok-add_flips.ensures

pub returns : goal.returns
returns c = done_number (flip_clauses c.args.lists.now (there c.args.lists.now) (made c.args.lists.now c.args.k)) c.args.k c.args.cnf.now c.loop-t.t c.loop-t.cnf (omega (arith, c.loop-t-test.false)) c.loop-t.invariant
