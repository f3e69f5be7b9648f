use Rattle.std.proofs.Common.{◌⊎◌, inl, inr, ◌<◌, length, Contains, subst}
use Rattle.log_law.specs.Clauses.{Clause}
use Rattle.log_law.specs.Trails.{Names, step_at}
use Rattle.sat_search.proofs.Resolving.{AreAdded, popped_within, told_reason, told_none, told_known, told_clause, gone_back}
use Rattle.sat_search.proofs.resolution.go_back.Goals as goal

pub clause-requires : goal.clause-requires
clause-requires c =
    let b = popped_within c.args.state.now c.requires.search c.args.r.now.conflict c.args.place c.args.r.now.pending.keys c.args.r.now.left.items c.args.r.now.reasons.items c.requires.resolving c.requires.last in
    told_known c.args.state.now c.requires.search c.args.place c.in-Some.reason b c.requires.reason
    (told_reason c.args.state.now c.requires.search c.args.place c.in-Some.reason c.trail_at.result c.reason.result b c.trail_at.ensures c.reason.ensures c.in-Some.is)

pub add_places-requires-clause-fits : goal.add_places-requires-clause-fits
add_places-requires-clause-fits c =
    let b = popped_within c.args.state.now c.requires.search c.args.r.now.conflict c.args.place c.args.r.now.pending.keys c.args.r.now.left.items c.args.r.now.reasons.items c.requires.resolving c.requires.last in
    told_clause c.args.state.now c.requires.search c.in-Some.reason c.clause.result.now
    (told_known c.args.state.now c.requires.search c.args.place c.in-Some.reason b c.requires.reason
    (told_reason c.args.state.now c.requires.search c.args.place c.in-Some.reason c.trail_at.result c.reason.result b c.trail_at.ensures c.reason.ensures c.in-Some.is))
    c.clause.ensures

pub unreachable-requires : goal.unreachable-requires
unreachable-requires c =
    let b = popped_within c.args.state.now c.requires.search c.args.r.now.conflict c.args.place c.args.r.now.pending.keys c.args.r.now.left.items c.args.r.now.reasons.items c.requires.resolving c.requires.last in
    told_none c.args.state.now c.requires.search c.args.place c.trail_at.result c.reason.result b c.requires.reason c.trail_at.ensures c.reason.ensures c.in-None.is

pub returns-clause-pending : goal.returns-clause-pending
returns-clause-pending c p k = from ((c.in_ok-add_places-in-Some.ensures p).0 k)
  where
    from : Contains c.args.r.now.pending.keys p ⊎ ((p < c.args.place) × (p < length c.args.state.now.trail) × Names c.clause.result.now (step_at c.args.state.now.trail p).literal.var) → Contains c.args.r.now.pending.keys p ⊎ (p < c.args.place)
    from (inl h) = inl h
    from (inr (b, _, _)) = inr b

pub returns-clause-resolving : goal.returns-clause-resolving
returns-clause-resolving c =
    let b = popped_within c.args.state.now c.requires.search c.args.r.now.conflict c.args.place c.args.r.now.pending.keys c.args.r.now.left.items c.args.r.now.reasons.items c.requires.resolving c.requires.last in
    gone_back c.args.state.now c.requires.search c.args.r.now.conflict c.args.place c.args.r.now.pending.keys c.args.r.now.left.items c.args.r.now.reasons.items c.requires.resolving c.requires.last
    c.add_places.new.pending.keys c.push.new.self.items c.in-Some.reason c.requires.reason
    (told_reason c.args.state.now c.requires.search c.args.place c.in-Some.reason c.trail_at.result c.reason.result b c.trail_at.ensures c.reason.ensures c.in-Some.is)
    (subst (λ (d : Clause). AreAdded c.args.state.now d c.args.place c.args.r.now.pending.keys c.add_places.new.pending.keys) c.clause.ensures c.in_ok-add_places-in-Some.ensures)
    c.in_ok-push-in-Some.ensures.items
