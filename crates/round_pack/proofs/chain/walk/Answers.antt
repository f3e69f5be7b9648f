use Rattle.std.proofs.Common.{◌∙◌, None, get_or, length, sym, subst, arith}
use Rattle.round_pack.specs.Chains.{IsWalked, bucket}
use Rattle.round_pack.proofs.Chains.{walk_starts, walk_within, walk_in, walk_found, walk_on, walk_ends, walk_smaller, is_none}
use Rattle.round_pack.proofs.chain.walk.Goals as goal

pub offset_bounds-slots-place : goal.offset_bounds-slots-place
offset_bounds-slots-place c =
    let w = subst (IsWalked (length c.args.heads.now) (bucket (length c.args.heads.now) c.args.low c.args.high) c.args.slots.now c.args.t) c.in-Some.is c.loop-at.invariant in
    let l = (walk_within _ _ _ c.requires _ _ c.in-Some.place w).0 in omega arith

pub bounds-slots-place : goal.bounds-slots-place
bounds-slots-place c =
    let w = subst (IsWalked (length c.args.heads.now) (bucket (length c.args.heads.now) c.args.low c.args.high) c.args.slots.now c.args.t) c.in-Some.is c.loop-at.invariant in
    (walk_within _ _ _ c.requires _ _ c.in-Some.place w).0

pub returns-then-makes_at : goal.returns-then-makes_at
returns-then-makes_at c =
    let w = subst (IsWalked (length c.args.heads.now) (bucket (length c.args.heads.now) c.args.low c.args.high) c.args.slots.now c.args.t) c.in-Some.is c.loop-at.invariant in
    sym (walk_found _ _ _ c.requires _ _ c.in-Some.place c.index-slots-place.result w c.index-slots-place.is (sym c.makes_at.ensures ∙ c.if-makes_at.true))

pub offset_bounds-before-place : goal.offset_bounds-before-place
offset_bounds-before-place c =
    let w = subst (IsWalked (length c.args.heads.now) (bucket (length c.args.heads.now) c.args.low c.args.high) c.args.slots.now c.args.t) c.in-Some.is c.loop-at.invariant in
    let l = (walk_within _ _ _ c.requires _ _ c.in-Some.place w).1 in omega arith

pub bounds-before-place : goal.bounds-before-place
bounds-before-place c =
    let w = subst (IsWalked (length c.args.heads.now) (bucket (length c.args.heads.now) c.args.low c.args.high) c.args.slots.now c.args.t) c.in-Some.is c.loop-at.invariant in
    (walk_within _ _ _ c.requires _ _ c.in-Some.place w).1

pub loop-at-smaller : goal.loop-at-smaller
loop-at-smaller c =
    let w = subst (IsWalked (length c.args.heads.now) (bucket (length c.args.heads.now) c.args.low c.args.high) c.args.slots.now c.args.t) c.in-Some.is c.loop-at.invariant in
    walk_smaller c.args.heads.now c.args.before.now c.args.slots.now c.requires (bucket (length c.args.heads.now) c.args.low c.args.high) c.in-Some.place (walk_within _ _ _ c.requires _ _ c.in-Some.place w).0 (walk_in _ _ _ c.requires _ _ c.in-Some.place w) c.loop-at.at c.in-Some.is

pub loop-at-preserved : goal.loop-at-preserved
loop-at-preserved c =
    let w = subst (IsWalked (length c.args.heads.now) (bucket (length c.args.heads.now) c.args.low c.args.high) c.args.slots.now c.args.t) c.in-Some.is c.loop-at.invariant in
    walk_on _ _ _ c.requires _ _ c.in-Some.place c.index-slots-place.result w c.index-slots-place.is (sym c.makes_at.ensures ∙ c.if-makes_at.false)

pub returns : goal.returns
returns c =
    let w = subst (IsWalked (length c.args.heads.now) (bucket (length c.args.heads.now) c.args.low c.args.high) c.args.slots.now c.args.t) (is_none c.loop-at.at c.in_default.not-Some) c.loop-at.invariant in
    sym (walk_ends _ _ _ c.requires _ _ w)

pub loop-at-init : goal.loop-at-init
loop-at-init c =
    subst (λ k. IsWalked (length c.args.heads.now) k c.args.slots.now c.args.t (get_or c.args.heads.now c.bucket.result None)) c.bucket.ensures.value (walk_starts _ _ _ c.requires c.bucket.result c.args.t c.bucket.ensures.within)
