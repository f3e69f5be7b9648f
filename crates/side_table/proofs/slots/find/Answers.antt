use Rattle.std.proofs.Common.{◌∙◌, true≢false, length, sym, subst, arith}
use Rattle.side_table.specs.Slots.{IsWalked, bucket, keys_of}
use Rattle.side_table.proofs.Chains.{walk_smaller, is_none}
use Rattle.side_table.proofs.Places.{walk_starts, walk_within, walk_keys, walk_in, walk_on, walk_ends, place_from, not_there}
use Rattle.side_table.proofs.slots.find.Goals as goal

pub loop-at-init : goal.loop-at-init
loop-at-init c = walk_starts _ _ _ c.requires _ _ c.bucket.result c.bucket.ensures.value c.bucket.ensures.within

pub offset_bounds-slots-place : goal.offset_bounds-slots-place
offset_bounds-slots-place c =
    let w = subst (IsWalked (bucket (length c.args.heads.now) c.args.u c.args.v) (keys_of (length c.args.heads.now) c.args.slots.now) c.args.slots.now c.args.u c.args.v) c.in-Some.is c.loop-at.invariant in
    let l = (walk_within _ _ _ c.requires _ _ c.in-Some.place w).0 in omega arith

pub bounds-slots-place : goal.bounds-slots-place
bounds-slots-place c =
    let w = subst (IsWalked (bucket (length c.args.heads.now) c.args.u c.args.v) (keys_of (length c.args.heads.now) c.args.slots.now) c.args.slots.now c.args.u c.args.v) c.in-Some.is c.loop-at.invariant in
    (walk_within _ _ _ c.requires _ _ c.in-Some.place w).0

pub returns-then-is_way : goal.returns-then-is_way
returns-then-is_way c =
    let w = subst (IsWalked (bucket (length c.args.heads.now) c.args.u c.args.v) (keys_of (length c.args.heads.now) c.args.slots.now) c.args.slots.now c.args.u c.args.v) c.in-Some.is c.loop-at.invariant in
    place_from _ c.in-Some.place _ _ _ (walk_within _ _ _ c.requires _ _ c.in-Some.place w).0 (c.is_way.ensures.0 c.if-is_way.true)

pub offset_bounds-before-place : goal.offset_bounds-before-place
offset_bounds-before-place c =
    let w = subst (IsWalked (bucket (length c.args.heads.now) c.args.u c.args.v) (keys_of (length c.args.heads.now) c.args.slots.now) c.args.slots.now c.args.u c.args.v) c.in-Some.is c.loop-at.invariant in
    let l = (walk_within _ _ _ c.requires _ _ c.in-Some.place w).1 in omega arith

pub bounds-before-place : goal.bounds-before-place
bounds-before-place c =
    let w = subst (IsWalked (bucket (length c.args.heads.now) c.args.u c.args.v) (keys_of (length c.args.heads.now) c.args.slots.now) c.args.slots.now c.args.u c.args.v) c.in-Some.is c.loop-at.invariant in
    (walk_within _ _ _ c.requires _ _ c.in-Some.place w).1

pub loop-at-smaller : goal.loop-at-smaller
loop-at-smaller c =
    let w = subst (IsWalked (bucket (length c.args.heads.now) c.args.u c.args.v) (keys_of (length c.args.heads.now) c.args.slots.now) c.args.slots.now c.args.u c.args.v) c.in-Some.is c.loop-at.invariant in
    walk_smaller c.args.heads.now c.args.before.now (keys_of (length c.args.heads.now) c.args.slots.now) c.requires.chained (bucket (length c.args.heads.now) c.args.u c.args.v) c.in-Some.place (walk_keys _ _ _ c.requires _ _ c.in-Some.place w) (walk_in _ _ _ c.requires _ _ c.in-Some.place w) c.loop-at.at c.in-Some.is

pub loop-at-preserved : goal.loop-at-preserved
loop-at-preserved c =
    let w = subst (IsWalked (bucket (length c.args.heads.now) c.args.u c.args.v) (keys_of (length c.args.heads.now) c.args.slots.now) c.args.slots.now c.args.u c.args.v) c.in-Some.is c.loop-at.invariant in
    walk_on _ _ _ c.requires _ _ c.in-Some.place w
    (not_there _ c.in-Some.place _ _ _ (walk_within _ _ _ c.requires _ _ c.in-Some.place w).0 (λ h. true≢false (sym (c.is_way.ensures.1 h) ∙ c.if-is_way.false)))

pub returns : goal.returns
returns c =
    let w = subst (IsWalked (bucket (length c.args.heads.now) c.args.u c.args.v) (keys_of (length c.args.heads.now) c.args.slots.now) c.args.slots.now c.args.u c.args.v) (is_none c.loop-at.at c.in_default.not-Some) c.loop-at.invariant in
    walk_ends _ _ _ c.requires _ _ w
