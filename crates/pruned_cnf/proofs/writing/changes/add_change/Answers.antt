use Rattle.std.proofs.Common.{◌≡◌, ◌∙◌, ap, arith}
use Rattle.formula_parts.specs.Lists.{edge_at}
use Rattle.pruned_cnf.specs.Groups.{change_clause, layer_of}
use Rattle.pruned_cnf.specs.Queries.{live_in}
use Rattle.pruned_cnf.proofs.AddedWhere.{fits_where, room_where, added_where, none_where}
use Rattle.pruned_cnf.proofs.writing.changes.add_change.Goals as goal

pub layer_of-layer-requires : goal.layer_of-layer-requires
layer_of-layer-requires c = let r = c.lists_of-lists.ensures.query.rounds in let l = c.requires.round in omega arith

pub clause_of-requires-clause-rounds : goal.clause_of-requires-clause-rounds
clause_of-requires-clause-rounds c = let r = c.lists_of-lists.ensures.query.rounds in let l = c.requires.round in omega arith

pub add-requires-clause-fits : goal.add-requires-clause-fits
add-requires-clause-fits c =
    let q = c.args.numbering.now in
    let e = edge_at q.frame.segments c.args.e in
    let ch = c.args.chain.now.change in
    let is : c.can_be_there.result ≡ live_in q (layer_of c.args.t ch) e = c.can_be_there.ensures ∙ ap (λ s. live_in q s e) c.layer_of-layer.ensures in
    fits_where c.args.cnf.now (live_in q (layer_of c.args.t ch) e) c.can_be_there.result (change_clause q c.args.t ch e) is c.if-can_be_there.true c.requires.takes c.in_ok-clause.clause c.in_ok-clause.ensures

pub add-requires-clause-room : goal.add-requires-clause-room
add-requires-clause-room c =
    let q = c.args.numbering.now in
    let e = edge_at q.frame.segments c.args.e in
    let ch = c.args.chain.now.change in
    let is : c.can_be_there.result ≡ live_in q (layer_of c.args.t ch) e = c.can_be_there.ensures ∙ ap (λ s. live_in q s e) c.layer_of-layer.ensures in
    room_where c.args.cnf.now (live_in q (layer_of c.args.t ch) e) c.can_be_there.result (change_clause q c.args.t ch e) is c.if-can_be_there.true c.requires.takes

pub returns-in_ok-add : goal.returns-in_ok-add
returns-in_ok-add c =
    let q = c.args.numbering.now in
    let e = edge_at q.frame.segments c.args.e in
    let ch = c.args.chain.now.change in
    let is : c.can_be_there.result ≡ live_in q (layer_of c.args.t ch) e = c.can_be_there.ensures ∙ ap (λ s. live_in q s e) c.layer_of-layer.ensures in
    added_where c.args.cnf.now (live_in q (layer_of c.args.t ch) e) c.can_be_there.result (change_clause q c.args.t ch e) is c.if-can_be_there.true c.in_ok-clause.clause c.add.new.self c.in_ok-clause.ensures c.in_ok-add.ensures.ok

pub returns-else-can_be_there : goal.returns-else-can_be_there
returns-else-can_be_there c =
    let q = c.args.numbering.now in
    let e = edge_at q.frame.segments c.args.e in
    let ch = c.args.chain.now.change in
    let is : c.can_be_there.result ≡ live_in q (layer_of c.args.t ch) e = c.can_be_there.ensures ∙ ap (λ s. live_in q s e) c.layer_of-layer.ensures in
    none_where c.args.cnf.now (live_in q (layer_of c.args.t ch) e) c.can_be_there.result (change_clause q c.args.t ch e) is c.if-can_be_there.false
