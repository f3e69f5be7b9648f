use Rattle.std.proofs.Common.{◌≡◌, ◌∙◌, ◌<◌, false, [], ◌∷◌, length, get_or, sym, ap, arith}
use Rattle.std.proofs.lemmas.Option.{get_or_from_slice_get}
use Rattle.log_law.specs.declared.Lit.{Lit}
use Rattle.formula_law.specs.Formula.{literal}
use Rattle.formula_parts.specs.Building.{asks}
use Rattle.formula_parts.proofs.Appending.{fits_one, room_one, added_one, all_done, begun}
use Rattle.formula_parts.proofs.clauses.add_asked.Goals as goal

no_lit : Lit
no_lit = literal 0 false

pub loop-i-init : goal.loop-i-init
loop-i-init c = begun (λ demand. asks c.args.unmade demand ∷ []) c.args.lits.now c.args.cnf.now

pub add-requires-clause-fits : goal.add-requires-clause-fits
add-requires-clause-fits c =
    let l : c.loop-i.i < length c.args.lits.now = omega (arith, c.loop-i-test.true, c.len-i-end.ensures.items) in
    let w : c.in_ok-clause.clause ≡ asks c.args.unmade (get_or c.args.lits.now c.loop-i.i no_lit) = c.in_ok-clause.ensures ∙ ap (asks c.args.unmade) (sym (get_or_from_slice_get c.args.lits.now c.loop-i.i c.at.result.now no_lit c.at.ensures)) in
    fits_one (asks c.args.unmade) c.args.lits.now c.args.cnf.now c.loop-i.i no_lit c.loop-i.cnf c.in_ok-clause.clause l c.requires c.loop-i.invariant w

pub add-requires-clause-room : goal.add-requires-clause-room
add-requires-clause-room c =
    let l : c.loop-i.i < length c.args.lits.now = omega (arith, c.loop-i-test.true, c.len-i-end.ensures.items) in
    room_one (asks c.args.unmade) c.args.lits.now c.args.cnf.now c.loop-i.i no_lit c.loop-i.cnf l c.requires c.loop-i.invariant

pub loop-i-preserved : goal.loop-i-preserved
loop-i-preserved c =
    let l : c.loop-i.i < length c.args.lits.now = omega (arith, c.loop-i-test.true, c.len-i-end.ensures.items) in
    let w : c.in_ok-clause.clause ≡ asks c.args.unmade (get_or c.args.lits.now c.loop-i.i no_lit) = c.in_ok-clause.ensures ∙ ap (asks c.args.unmade) (sym (get_or_from_slice_get c.args.lits.now c.loop-i.i c.at.result.now no_lit c.at.ensures)) in
    added_one (asks c.args.unmade) c.args.lits.now c.args.cnf.now c.loop-i.i no_lit c.loop-i.cnf c.add.new.self c.in_ok-clause.clause l c.loop-i.invariant w c.in_ok-add.ensures.ok

pub returns : goal.returns
returns c = all_done (asks c.args.unmade) c.args.lits.now c.args.cnf.now c.loop-i.i c.loop-i.cnf (omega (arith, c.len-i-end.ensures.items)) c.loop-i.invariant
