use Rattle.std.proofs.Common.{ℕ, List, refl, sym, ◌∙◌, subst}
use Rattle.log_law.specs.SearchLaws.{IsConflict}
use Rattle.sat_search.specs.Resolutions.{IsResolving}
use Rattle.sat_search.proofs.Resolving.{below_popped, end_less, none_popped, rest_within, stayed, never_none, has_reason, is_last}
use Rattle.sat_search.proofs.resolution.go_to_last.Goals as goal

pub loop-place-init : goal.loop-place-init
loop-place-init c = record { conflict = refl; left = c.requires.left; resolving = c.requires.resolving }

pub are_lower-requires-clause-within : goal.are_lower-requires-clause-within
are_lower-requires-clause-within c =
    let R = subst (λ (ks : List ℕ). IsResolving c.args.state.now c.loop-place.r.conflict ks c.loop-place.r.left.items c.loop-place.r.reasons.items) c.in-Some.ensures.removal c.loop-place.invariant.resolving in
    let last = below_popped c.pop_last.new.self.keys c.in-Some.place c.in-Some.ensures.all_below in
    rest_within c.args.state.now c.requires.search c.loop-place.r.conflict c.in-Some.place c.pop_last.new.self.keys c.loop-place.r.left.items c.loop-place.r.reasons.items R last

pub returns-then-are_lower-clause-conflict : goal.returns-then-are_lower-clause-conflict
returns-then-are_lower-clause-conflict c = c.loop-place.invariant.conflict

pub returns-then-are_lower-clause-last : goal.returns-then-are_lower-clause-last
returns-then-are_lower-clause-last c =
    let R = subst (λ (ks : List ℕ). IsResolving c.args.state.now c.loop-place.r.conflict ks c.loop-place.r.left.items c.loop-place.r.reasons.items) c.in-Some.ensures.removal c.loop-place.invariant.resolving in
    let last = below_popped c.pop_last.new.self.keys c.in-Some.place c.in-Some.ensures.all_below in
    let X = subst (λ (n : ℕ). IsConflict c.args.state.now.clauses c.args.state.now.trail n) (sym c.loop-place.invariant.conflict) c.requires.conflict in
    is_last c.args.state.now c.requires.search c.loop-place.r.conflict c.in-Some.place c.pop_last.new.self.keys c.loop-place.r.left.items c.loop-place.r.reasons.items c.requires.above X R last c.loop-place.invariant.left c.push.new.self.items c.in_ok-push.ensures.items (c.are_lower.ensures.lower c.if-are_lower.true)

pub returns-then-are_lower-clause-resolving : goal.returns-then-are_lower-clause-resolving
returns-then-are_lower-clause-resolving c =
    let R = subst (λ (ks : List ℕ). IsResolving c.args.state.now c.loop-place.r.conflict ks c.loop-place.r.left.items c.loop-place.r.reasons.items) c.in-Some.ensures.removal c.loop-place.invariant.resolving in
    let last = below_popped c.pop_last.new.self.keys c.in-Some.place c.in-Some.ensures.all_below in
    stayed c.args.state.now c.requires.search c.loop-place.r.conflict c.in-Some.place c.pop_last.new.self.keys c.loop-place.r.left.items c.loop-place.r.reasons.items R last c.push.new.self.items c.in_ok-push.ensures.items

pub go_back-requires-clause-resolving : goal.go_back-requires-clause-resolving
go_back-requires-clause-resolving c = subst (λ (ks : List ℕ). IsResolving c.args.state.now c.loop-place.r.conflict ks c.loop-place.r.left.items c.loop-place.r.reasons.items) c.in-Some.ensures.removal c.loop-place.invariant.resolving

pub go_back-requires-clause-reason : goal.go_back-requires-clause-reason
go_back-requires-clause-reason c =
    let R = subst (λ (ks : List ℕ). IsResolving c.args.state.now c.loop-place.r.conflict ks c.loop-place.r.left.items c.loop-place.r.reasons.items) c.in-Some.ensures.removal c.loop-place.invariant.resolving in
    let last = below_popped c.pop_last.new.self.keys c.in-Some.place c.in-Some.ensures.all_below in
    let X = subst (λ (n : ℕ). IsConflict c.args.state.now.clauses c.args.state.now.trail n) (sym c.loop-place.invariant.conflict) c.requires.conflict in
    has_reason c.args.state.now c.requires.search c.loop-place.r.conflict c.in-Some.place c.pop_last.new.self.keys c.loop-place.r.left.items c.loop-place.r.reasons.items c.requires.above X R last c.loop-place.invariant.left (c.are_lower.ensures.another c.if-are_lower.false)

pub loop-place-smaller : goal.loop-place-smaller
loop-place-smaller c = end_less c.loop-place.r.pending.keys c.go_back.new.r.pending.keys c.pop_last.new.self.keys c.in-Some.place c.in-Some.ensures.removal (below_popped c.pop_last.new.self.keys c.in-Some.place c.in-Some.ensures.all_below) c.in_ok-go_back.ensures.pending

pub loop-place-preserved : goal.loop-place-preserved
loop-place-preserved c = record {
  conflict = c.in_ok-go_back.ensures.conflict ∙ c.loop-place.invariant.conflict;
  left = c.in_ok-go_back.ensures.left ∙ c.loop-place.invariant.left;
  resolving = c.in_ok-go_back.ensures.resolving;
}

pub unreachable-requires : goal.unreachable-requires
unreachable-requires c =
    let X = subst (λ (n : ℕ). IsConflict c.args.state.now.clauses c.args.state.now.trail n) (sym c.loop-place.invariant.conflict) c.requires.conflict in
    never_none c.args.state.now c.requires.search c.loop-place.r.conflict c.loop-place.r.pending.keys c.loop-place.r.left.items c.loop-place.r.reasons.items c.requires.above X c.loop-place.invariant.resolving c.loop-place.invariant.left
    (none_popped c.loop-place.r.pending.keys c.pop_last.result c.pop_last.ensures.variant c.in_default.is)
