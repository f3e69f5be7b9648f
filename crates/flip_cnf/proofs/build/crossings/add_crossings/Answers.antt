use Rattle.std.proofs.Common.{◌≡◌, ◌∙◌, ◌<◌, [], ◌∷◌, length, sym, ap, ap₂, arith}
use Rattle.log_law.specs.Clauses.{Clause}
use Rattle.formula_parts.specs.Building.{no_pair, pair_at}
use Rattle.flip_cnf.specs.Building.{not_both}
use Rattle.formula_parts.proofs.Appending.{fits_one, room_one, added_one, all_done, begun}
use Rattle.flip_cnf.proofs.build.crossings.add_crossings.Goals as goal

pub loop-n-init : goal.loop-n-init
loop-n-init c = begun (λ g. not_both c.args.lists.now c.args.t g ∷ []) c.args.lists.now.crossings c.args.cnf.now

pub add-requires-clause-fits : goal.add-requires-clause-fits
add-requires-clause-fits c =
    let l : c.loop-n.n < length c.args.lists.now.crossings = omega (arith, c.loop-n-test.true, c.crossings-n-end.ensures.count) in
    let w : c.in_ok-clause.clause ≡ not_both c.args.lists.now c.args.t (pair_at c.args.lists.now.crossings c.loop-n.n) = c.in_ok-clause.ensures ∙ ap₂ (λ x y. let d : Clause = x ∷ y ∷ [] in d) c.there.ensures c.there-in-loop-n.ensures ∙ ap (not_both c.args.lists.now c.args.t) (sym c.crossing-g.ensures.pair) in
    fits_one (not_both c.args.lists.now c.args.t) c.args.lists.now.crossings c.args.cnf.now c.loop-n.n no_pair c.loop-n.cnf c.in_ok-clause.clause l c.requires.takes c.loop-n.invariant w

pub add-requires-clause-room : goal.add-requires-clause-room
add-requires-clause-room c =
    let l : c.loop-n.n < length c.args.lists.now.crossings = omega (arith, c.loop-n-test.true, c.crossings-n-end.ensures.count) in
    room_one (not_both c.args.lists.now c.args.t) c.args.lists.now.crossings c.args.cnf.now c.loop-n.n no_pair c.loop-n.cnf l c.requires.takes c.loop-n.invariant

pub loop-n-preserved : goal.loop-n-preserved
loop-n-preserved c =
    let l : c.loop-n.n < length c.args.lists.now.crossings = omega (arith, c.loop-n-test.true, c.crossings-n-end.ensures.count) in
    let w : c.in_ok-clause.clause ≡ not_both c.args.lists.now c.args.t (pair_at c.args.lists.now.crossings c.loop-n.n) = c.in_ok-clause.ensures ∙ ap₂ (λ x y. let d : Clause = x ∷ y ∷ [] in d) c.there.ensures c.there-in-loop-n.ensures ∙ ap (not_both c.args.lists.now c.args.t) (sym c.crossing-g.ensures.pair) in
    added_one (not_both c.args.lists.now c.args.t) c.args.lists.now.crossings c.args.cnf.now c.loop-n.n no_pair c.loop-n.cnf c.add.new.self c.in_ok-clause.clause l c.loop-n.invariant w c.in_ok-add.ensures.ok

pub returns : goal.returns
returns c = all_done (not_both c.args.lists.now c.args.t) c.args.lists.now.crossings c.args.cnf.now c.loop-n.n c.loop-n.cnf (omega (arith, c.crossings-n-end.ensures.count)) c.loop-n.invariant
