use Rattle.std.proofs.Common.{◌⊎◌, inl, inr, ℕ, ◌<◌, ◌≡◌, ◌∷◌, [], List, length, Contains, refl, sym, ◌∙◌, subst, arith}
use Rattle.std.proofs.lemmas.List.Elements.{Contains-append_left, Contains-push, Contains-push_cases}
use Rattle.log_law.specs.Trails.{step_at}
use Rattle.sat_search.specs.Resolutions.{IsResolving}
use Rattle.sat_search.proofs.Resolving.{below_popped, end_less, popped_within, stayed, level_up, ground_reason}
use Rattle.sat_search.proofs.resolution.go_over_ground.Goals as goal

pub loop-place-init : goal.loop-place-init
loop-place-init c = record { conflict = refl; stay = λ p h. h; left = λ p h. inl h; pending = λ p h. inl h; resolving = c.requires.resolving }

pub level_at-requires-clause-within : goal.level_at-requires-clause-within
level_at-requires-clause-within c =
    let R = subst (λ (ks : List ℕ). IsResolving c.args.state.now c.loop-place.r.conflict ks c.loop-place.r.left.items c.loop-place.r.reasons.items) c.in-Some.ensures.removal c.loop-place.invariant.resolving in
    let last = below_popped c.pop_last.new.self.keys c.in-Some.place c.in-Some.ensures.all_below in
    popped_within c.args.state.now c.requires.search c.loop-place.r.conflict c.in-Some.place c.pop_last.new.self.keys c.loop-place.r.left.items c.loop-place.r.reasons.items R last

pub loop-place-smaller-in-Continue-1 : goal.loop-place-smaller-in-Continue-1
loop-place-smaller-in-Continue-1 c = end_less c.loop-place.r.pending.keys c.pop_last.new.self.keys c.pop_last.new.self.keys c.in-Some.place c.in-Some.ensures.removal (below_popped c.pop_last.new.self.keys c.in-Some.place c.in-Some.ensures.all_below) (λ p h. inl h)

pub loop-place-preserved-in-Continue-1 : goal.loop-place-preserved-in-Continue-1
loop-place-preserved-in-Continue-1 c =
    let R = subst (λ (ks : List ℕ). IsResolving c.args.state.now c.loop-place.r.conflict ks c.loop-place.r.left.items c.loop-place.r.reasons.items) c.in-Some.ensures.removal c.loop-place.invariant.resolving in
    let last = below_popped c.pop_last.new.self.keys c.in-Some.place c.in-Some.ensures.all_below in
    record {
      conflict = c.loop-place.invariant.conflict;
      stay = λ p h. subst (λ (ps : List ℕ). Contains ps p) (sym c.in_ok-push.ensures.items) (Contains-append_left c.loop-place.r.left.items (c.in-Some.place ∷ []) p (c.loop-place.invariant.stay p h));
      left = λ p h. left p (Contains-push_cases c.loop-place.r.left.items c.in-Some.place p (subst (λ (ps : List ℕ). Contains ps p) c.in_ok-push.ensures.items h));
      pending = λ p h. c.loop-place.invariant.pending p (was p h);
      resolving = stayed c.args.state.now c.requires.search c.loop-place.r.conflict c.in-Some.place c.pop_last.new.self.keys c.loop-place.r.left.items c.loop-place.r.reasons.items R last c.push.new.self.items c.in_ok-push.ensures.items;
    }
  where
    was : (p : ℕ) → Contains c.pop_last.new.self.keys p → Contains c.loop-place.r.pending.keys p
    was p h = subst (λ (ks : List ℕ). Contains ks p) (sym c.in-Some.ensures.removal) (Contains-append_left c.pop_last.new.self.keys (c.in-Some.place ∷ []) p h)

    popped : Contains c.loop-place.r.pending.keys c.in-Some.place
    popped = subst (λ (ks : List ℕ). Contains ks c.in-Some.place) (sym c.in-Some.ensures.removal) (Contains-push c.pop_last.new.self.keys c.in-Some.place)

    up : 0 < (step_at c.args.state.now.trail c.in-Some.place).level
    up = omega (arith, c.if-level_at-gt0.true, c.level_at.ensures)

    here : Contains c.args.r.now.pending.keys c.in-Some.place ⊎ ((step_at c.args.state.now.trail c.in-Some.place).level ≡ 0) → Contains c.args.r.now.left.items c.in-Some.place ⊎ (Contains c.args.r.now.pending.keys c.in-Some.place × (0 < (step_at c.args.state.now.trail c.in-Some.place).level))
    here (inl h) = inr (h, up)
    here (inr z) = absurd (omega (arith, up, z))

    left : (p : ℕ) → Contains c.loop-place.r.left.items p ⊎ (c.in-Some.place ≡ p) → Contains c.args.r.now.left.items p ⊎ (Contains c.args.r.now.pending.keys p × (0 < (step_at c.args.state.now.trail p).level))
    left p (inl h) = c.loop-place.invariant.left p h
    left p (inr e) = subst (λ (q : ℕ). Contains c.args.r.now.left.items q ⊎ (Contains c.args.r.now.pending.keys q × (0 < (step_at c.args.state.now.trail q).level))) e (here (c.loop-place.invariant.pending c.in-Some.place popped))

pub go_back-requires-clause-resolving : goal.go_back-requires-clause-resolving
go_back-requires-clause-resolving c = subst (λ (ks : List ℕ). IsResolving c.args.state.now c.loop-place.r.conflict ks c.loop-place.r.left.items c.loop-place.r.reasons.items) c.in-Some.ensures.removal c.loop-place.invariant.resolving

pub go_back-requires-clause-reason : goal.go_back-requires-clause-reason
go_back-requires-clause-reason c =
    let R = subst (λ (ks : List ℕ). IsResolving c.args.state.now c.loop-place.r.conflict ks c.loop-place.r.left.items c.loop-place.r.reasons.items) c.in-Some.ensures.removal c.loop-place.invariant.resolving in
    let last = below_popped c.pop_last.new.self.keys c.in-Some.place c.in-Some.ensures.all_below in
    ground_reason c.args.state.now c.requires.search c.in-Some.place (popped_within c.args.state.now c.requires.search c.loop-place.r.conflict c.in-Some.place c.pop_last.new.self.keys c.loop-place.r.left.items c.loop-place.r.reasons.items R last) (omega (arith, c.if-level_at-gt0.false, c.level_at.ensures))

pub loop-place-smaller : goal.loop-place-smaller
loop-place-smaller c = end_less c.loop-place.r.pending.keys c.go_back.new.r.pending.keys c.pop_last.new.self.keys c.in-Some.place c.in-Some.ensures.removal (below_popped c.pop_last.new.self.keys c.in-Some.place c.in-Some.ensures.all_below) c.in_ok-go_back.ensures.pending

pub loop-place-preserved : goal.loop-place-preserved
loop-place-preserved c =
    let R = subst (λ (ks : List ℕ). IsResolving c.args.state.now c.loop-place.r.conflict ks c.loop-place.r.left.items c.loop-place.r.reasons.items) c.in-Some.ensures.removal c.loop-place.invariant.resolving in
    let last = below_popped c.pop_last.new.self.keys c.in-Some.place c.in-Some.ensures.all_below in
    record {
      conflict = c.in_ok-go_back.ensures.conflict ∙ c.loop-place.invariant.conflict;
      stay = λ p h. subst (λ (ps : List ℕ). Contains ps p) (sym c.in_ok-go_back.ensures.left) (c.loop-place.invariant.stay p h);
      left = λ p h. c.loop-place.invariant.left p (subst (λ (ps : List ℕ). Contains ps p) c.in_ok-go_back.ensures.left h);
      pending = λ p h. pending p (popped_within c.args.state.now c.requires.search c.loop-place.r.conflict c.in-Some.place c.pop_last.new.self.keys c.loop-place.r.left.items c.loop-place.r.reasons.items R last) (c.in_ok-go_back.ensures.pending p h);
      resolving = c.in_ok-go_back.ensures.resolving;
    }
  where
    was : (p : ℕ) → Contains c.pop_last.new.self.keys p → Contains c.loop-place.r.pending.keys p
    was p h = subst (λ (ks : List ℕ). Contains ks p) (sym c.in-Some.ensures.removal) (Contains-append_left c.pop_last.new.self.keys (c.in-Some.place ∷ []) p h)

    ground : (step_at c.args.state.now.trail c.in-Some.place).level ≡ 0
    ground = omega (arith, c.if-level_at-gt0.false, c.level_at.ensures)

    pending : (p : ℕ) → c.in-Some.place < length c.args.state.now.trail → Contains c.pop_last.new.self.keys p ⊎ (p < c.in-Some.place) → Contains c.args.r.now.pending.keys p ⊎ ((step_at c.args.state.now.trail p).level ≡ 0)
    pending p b (inl h) = c.loop-place.invariant.pending p (was p h)
    pending p b (inr l) = let u = level_up c.args.state.now c.requires.search p c.in-Some.place (omega (arith, l)) b in inr (omega (arith, u, ground))

pub returns-clause-conflict : goal.returns-clause-conflict
returns-clause-conflict c = c.loop-place.invariant.conflict

pub returns-clause-stay : goal.returns-clause-stay
returns-clause-stay c = c.loop-place.invariant.stay

pub returns-clause-left : goal.returns-clause-left
returns-clause-left c = c.loop-place.invariant.left

pub returns-clause-resolving : goal.returns-clause-resolving
returns-clause-resolving c = subst (λ (ks : List ℕ). IsResolving c.args.state.now c.loop-place.r.conflict ks c.loop-place.r.left.items c.loop-place.r.reasons.items) (sym c.in_default.ensures.unchanged) c.loop-place.invariant.resolving
