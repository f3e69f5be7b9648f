use Rattle.std.proofs.Common.{ℕ, List, [], sym, subst}
use Rattle.log_law.specs.Clauses.{Clause}
use Rattle.log_law.specs.Logs.{clause_at}
use Rattle.sat_search.specs.Resolutions.{IsResolving}
use Rattle.sat_search.proofs.Resolving.{AreAdded, told_clause, begun}
use Rattle.sat_search.proofs.resolution.begin.Goals as goal

pub add_places-requires-clause-fits : goal.add_places-requires-clause-fits
add_places-requires-clause-fits c = told_clause c.args.state.now c.requires.search c.args.conflict c.clause.result.now c.requires.conflict.identifier c.clause.ensures

pub returns-clause-resolving : goal.returns-clause-resolving
returns-clause-resolving c =
    subst (λ (ls : List ℕ). IsResolving c.args.state.now c.args.conflict c.add_places.new.pending.keys ls c.new-2.result.items) (sym c.new.ensures.items)
    (subst (λ (rs : List ℕ). IsResolving c.args.state.now c.args.conflict c.add_places.new.pending.keys [] rs) (sym c.new-2.ensures.items)
    (begun c.args.state.now c.requires.search c.args.conflict c.trail_len.result c.add_places.new.pending.keys c.requires.conflict c.trail_len.ensures.steps
    (subst (λ (ks : List ℕ). AreAdded c.args.state.now (clause_at c.args.state.now.clauses c.args.conflict) c.trail_len.result ks c.add_places.new.pending.keys) c.new-pending.ensures.empty
    (subst (λ (d : Clause). AreAdded c.args.state.now d c.trail_len.result c.new-pending.result.keys c.add_places.new.pending.keys) c.clause.ensures c.in_ok-add_places.ensures))))
