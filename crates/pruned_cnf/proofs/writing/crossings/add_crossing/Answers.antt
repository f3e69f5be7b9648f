use Rattle.std.proofs.Common.{◌&&◌}
use Rattle.formula_parts.specs.Building.{pair_at}
use Rattle.pruned_cnf.specs.Groups.{not_both}
use Rattle.pruned_cnf.specs.Queries.{live_in}
use Rattle.pruned_cnf.proofs.AddedWhere.{fits_where, room_where, added_where, none_where}
use Rattle.pruned_cnf.proofs.writing.crossings.add_crossing.Goals as goal

pub add-requires-clause-fits : goal.add-requires-clause-fits
add-requires-clause-fits c =
    let q = c.args.numbering.now in
    let g = pair_at q.frame.crossings c.args.n in
    fits_where c.args.cnf.now (live_in q c.args.t g.0 && live_in q c.args.t g.1) c.may_both.result (not_both q c.args.t g) c.may_both.ensures c.if-may_both.true c.requires.takes c.in_ok-clause.clause c.in_ok-clause.ensures

pub add-requires-clause-room : goal.add-requires-clause-room
add-requires-clause-room c =
    let q = c.args.numbering.now in
    let g = pair_at q.frame.crossings c.args.n in
    room_where c.args.cnf.now (live_in q c.args.t g.0 && live_in q c.args.t g.1) c.may_both.result (not_both q c.args.t g) c.may_both.ensures c.if-may_both.true c.requires.takes

pub returns-in_ok-add : goal.returns-in_ok-add
returns-in_ok-add c =
    let q = c.args.numbering.now in
    let g = pair_at q.frame.crossings c.args.n in
    added_where c.args.cnf.now (live_in q c.args.t g.0 && live_in q c.args.t g.1) c.may_both.result (not_both q c.args.t g) c.may_both.ensures c.if-may_both.true c.in_ok-clause.clause c.add.new.self c.in_ok-clause.ensures c.in_ok-add.ensures.ok

pub returns-else-may_both : goal.returns-else-may_both
returns-else-may_both c =
    let q = c.args.numbering.now in
    let g = pair_at q.frame.crossings c.args.n in
    none_where c.args.cnf.now (live_in q c.args.t g.0 && live_in q c.args.t g.1) c.may_both.result (not_both q c.args.t g) c.may_both.ensures c.if-may_both.false
