use Rattle.std.proofs.Common.{◌≡◌, ◌∙◌, ◌<◌, true, [], ◌∷◌, length, get_or, Contains, sym, ap, subst, arith}
use Rattle.std.proofs.lemmas.List.Elements.{Contains-get_or}
use Rattle.std.proofs.lemmas.Option.{get_or_from_slice_get}
use Rattle.formula_parts.specs.Lists.{no_edge}
use Rattle.formula_parts.proofs.Appending.{fits_one, room_one, added_one, all_done, begun}
use Rattle.pruned_cnf.specs.Groups.{place_literal}
use Rattle.pruned_cnf.proofs.writing.layers.add_layer.Goals as goal

pub loop-i-init : goal.loop-i-init
loop-i-init c = begun (λ e. place_literal c.args.numbering.now c.args.t e true ∷ []) c.args.edges.now.edges c.args.cnf.now

pub is_there-requires-clause-segment : goal.is_there-requires-clause-segment
is_there-requires-clause-segment c =
    let l : c.loop-i.i < length c.args.edges.now.edges = omega (arith, c.loop-i-test.true, c.len-i-end.ensures.len) in
    let e = c.edge_at.result in
    let at : get_or c.args.edges.now.edges c.loop-i.i no_edge ≡ e = get_or_from_slice_get c.args.edges.now.edges c.loop-i.i e no_edge c.edge_at.ensures in
    (c.lists_of-lists.ensures.query.frame.segments e).1 (c.requires.edges.segments e (subst (Contains c.args.edges.now.edges) at (Contains-get_or c.args.edges.now.edges c.loop-i.i no_edge l)))

pub add-requires-clause-fits : goal.add-requires-clause-fits
add-requires-clause-fits c =
    let l : c.loop-i.i < length c.args.edges.now.edges = omega (arith, c.loop-i-test.true, c.len-i-end.ensures.len) in
    let w : c.in_ok-clause.clause ≡ place_literal c.args.numbering.now c.args.t (get_or c.args.edges.now.edges c.loop-i.i no_edge) true = c.in_ok-clause.ensures ∙ ap (λ e. place_literal c.args.numbering.now c.args.t e true) (sym (get_or_from_slice_get c.args.edges.now.edges c.loop-i.i c.edge_at.result no_edge c.edge_at.ensures)) in
    fits_one (λ e. place_literal c.args.numbering.now c.args.t e true) c.args.edges.now.edges c.args.cnf.now c.loop-i.i no_edge c.loop-i.cnf c.in_ok-clause.clause l c.requires.takes c.loop-i.invariant w

pub add-requires-clause-room : goal.add-requires-clause-room
add-requires-clause-room c =
    let l : c.loop-i.i < length c.args.edges.now.edges = omega (arith, c.loop-i-test.true, c.len-i-end.ensures.len) in
    room_one (λ e. place_literal c.args.numbering.now c.args.t e true) c.args.edges.now.edges c.args.cnf.now c.loop-i.i no_edge c.loop-i.cnf l c.requires.takes c.loop-i.invariant

pub loop-i-preserved : goal.loop-i-preserved
loop-i-preserved c =
    let l : c.loop-i.i < length c.args.edges.now.edges = omega (arith, c.loop-i-test.true, c.len-i-end.ensures.len) in
    let w : c.in_ok-clause.clause ≡ place_literal c.args.numbering.now c.args.t (get_or c.args.edges.now.edges c.loop-i.i no_edge) true = c.in_ok-clause.ensures ∙ ap (λ e. place_literal c.args.numbering.now c.args.t e true) (sym (get_or_from_slice_get c.args.edges.now.edges c.loop-i.i c.edge_at.result no_edge c.edge_at.ensures)) in
    added_one (λ e. place_literal c.args.numbering.now c.args.t e true) c.args.edges.now.edges c.args.cnf.now c.loop-i.i no_edge c.loop-i.cnf c.add.new.self c.in_ok-clause.clause l c.loop-i.invariant w c.in_ok-add.ensures.ok

pub returns : goal.returns
returns c = all_done (λ e. place_literal c.args.numbering.now c.args.t e true) c.args.edges.now.edges c.args.cnf.now c.loop-i.i c.loop-i.cnf (omega (arith, c.loop-i-test.false, c.len-i-end.ensures.len)) c.loop-i.invariant
