use Rattle.std.proofs.Common.{◌≡◌, ◌<◌, ◌≤◌, ap, arith}
use Rattle.std.specs.List.{range_with_len}
use Rattle.formula_parts.proofs.Appending.{begun, takes_number, added_number, done_number}
use Rattle.pruned_cnf.specs.Groups.{flips_in}
use Rattle.pruned_cnf.specs.Queries.{Query}
use Rattle.pruned_cnf.proofs.writing.add_all_flips.Goals as goal

pub loop-t-init : goal.loop-t-init
loop-t-init c = begun (flips_in c.args.numbering.now) (range_with_len 0 c.args.numbering.now.rounds) c.args.cnf.now

pub add_flips-requires-clause-takes : goal.add_flips-requires-clause-takes
add_flips-requires-clause-takes c =
    let k : c.query.result.now.rounds ≡ c.args.numbering.now.rounds = ap (λ (q : Query). q.rounds) c.query.ensures in
    let l : c.loop-t.t < c.args.numbering.now.rounds = omega (arith, c.loop-t-test.true, c.rounds-t-end.ensures, k) in
    takes_number (flips_in c.args.numbering.now) c.args.numbering.now.rounds c.args.cnf.now c.loop-t.t c.loop-t.cnf l c.requires c.loop-t.invariant

pub loop-t-preserved : goal.loop-t-preserved
loop-t-preserved c =
    let k : c.query.result.now.rounds ≡ c.args.numbering.now.rounds = ap (λ (q : Query). q.rounds) c.query.ensures in
    let l : c.loop-t.t < c.args.numbering.now.rounds = omega (arith, c.loop-t-test.true, c.rounds-t-end.ensures, k) in
    added_number (flips_in c.args.numbering.now) c.args.numbering.now.rounds c.args.cnf.now c.loop-t.t c.loop-t.cnf c.add_flips.new.cnf l c.loop-t.invariant c.in_ok-add_flips.ensures

pub returns : goal.returns
returns c =
    let k : c.query.result.now.rounds ≡ c.args.numbering.now.rounds = ap (λ (q : Query). q.rounds) c.query.ensures in
    let l : c.args.numbering.now.rounds ≤ c.loop-t.t = omega (arith, c.loop-t-test.false, c.rounds-t-end.ensures, k) in
    done_number (flips_in c.args.numbering.now) c.args.numbering.now.rounds c.args.cnf.now c.loop-t.t c.loop-t.cnf l c.loop-t.invariant
