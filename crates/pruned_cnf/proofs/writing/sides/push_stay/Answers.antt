use Rattle.std.proofs.Common.{◌+◌, true}
use Rattle.formula_parts.specs.Lists.{edge_at}
use Rattle.pruned_cnf.specs.Groups.{place_literal}
use Rattle.pruned_cnf.proofs.AddedWhere.{two_put}
use Rattle.pruned_cnf.proofs.writing.sides.push_stay.Goals as goal

pub returns : goal.returns
returns c =
    let q = c.args.numbering.now in
    let s = edge_at q.frame.segments c.args.n in
    two_put c.args.lits.now c.push_if_live.new.lits c.push_if_live-2.new.lits (place_literal q c.args.t s true) (place_literal q (c.args.t + 1) s true) c.in_ok-push_if_live.ensures c.in_ok-push_if_live-2.ensures
