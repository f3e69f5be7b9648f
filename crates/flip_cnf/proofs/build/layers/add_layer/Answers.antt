use Rattle.std.proofs.Common.{◌≡◌, ◌∙◌, ◌<◌, [], ◌∷◌, length, ap, arith}
use Rattle.log_law.specs.Clauses.{Clause}
use Rattle.formula_law.specs.Formula.{literal, there}
use Rattle.edge_table.specs.Edges.{is_member}
use Rattle.formula_parts.specs.Lists.{no_edge, edge_at}
use Rattle.flip_cnf.specs.Building.{told_by}
use Rattle.formula_parts.proofs.Appending.{fits_one, room_one, added_one, all_done, begun}
use Rattle.formula_parts.proofs.Places.{member_is}
use Rattle.flip_cnf.proofs.build.layers.add_layer.Goals as goal

pub loop-n-init : goal.loop-n-init
loop-n-init c = begun (λ e. told_by c.args.lists.now c.args.t c.args.edges.now.edges e ∷ []) c.args.lists.now.segments c.args.cnf.now

pub add-requires-clause-fits : goal.add-requires-clause-fits
add-requires-clause-fits c =
    let l : c.loop-n.n < length c.args.lists.now.segments = omega (arith, c.loop-n-test.true, c.segments-n-end.ensures.count) in
    let w : c.in_ok-clause.clause ≡ told_by c.args.lists.now c.args.t c.args.edges.now.edges (edge_at c.args.lists.now.segments c.loop-n.n) = c.in_ok-clause.ensures ∙ ap (λ x. let d : Clause = x ∷ [] in d) (c.there.ensures ∙ ap (literal (there c.args.lists.now c.args.t (edge_at c.args.lists.now.segments c.loop-n.n))) (member_is c.args.edges.now.edges c.segment.result c.has-on.result c.has-on.ensures ∙ ap (is_member c.args.edges.now.edges) c.segment.ensures)) in
    fits_one (told_by c.args.lists.now c.args.t c.args.edges.now.edges) c.args.lists.now.segments c.args.cnf.now c.loop-n.n no_edge c.loop-n.cnf c.in_ok-clause.clause l c.requires.takes c.loop-n.invariant w

pub add-requires-clause-room : goal.add-requires-clause-room
add-requires-clause-room c =
    let l : c.loop-n.n < length c.args.lists.now.segments = omega (arith, c.loop-n-test.true, c.segments-n-end.ensures.count) in
    room_one (told_by c.args.lists.now c.args.t c.args.edges.now.edges) c.args.lists.now.segments c.args.cnf.now c.loop-n.n no_edge c.loop-n.cnf l c.requires.takes c.loop-n.invariant

pub loop-n-preserved : goal.loop-n-preserved
loop-n-preserved c =
    let l : c.loop-n.n < length c.args.lists.now.segments = omega (arith, c.loop-n-test.true, c.segments-n-end.ensures.count) in
    let w : c.in_ok-clause.clause ≡ told_by c.args.lists.now c.args.t c.args.edges.now.edges (edge_at c.args.lists.now.segments c.loop-n.n) = c.in_ok-clause.ensures ∙ ap (λ x. let d : Clause = x ∷ [] in d) (c.there.ensures ∙ ap (literal (there c.args.lists.now c.args.t (edge_at c.args.lists.now.segments c.loop-n.n))) (member_is c.args.edges.now.edges c.segment.result c.has-on.result c.has-on.ensures ∙ ap (is_member c.args.edges.now.edges) c.segment.ensures)) in
    added_one (told_by c.args.lists.now c.args.t c.args.edges.now.edges) c.args.lists.now.segments c.args.cnf.now c.loop-n.n no_edge c.loop-n.cnf c.add.new.self c.in_ok-clause.clause l c.loop-n.invariant w c.in_ok-add.ensures.ok

pub returns : goal.returns
returns c = all_done (told_by c.args.lists.now c.args.t c.args.edges.now.edges) c.args.lists.now.segments c.args.cnf.now c.loop-n.n c.loop-n.cnf (omega (arith, c.segments-n-end.ensures.count)) c.loop-n.invariant
