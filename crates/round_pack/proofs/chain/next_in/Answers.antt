use Rattle.std.proofs.Common.{length, subst, arith}
use Rattle.round_pack.specs.Chains.{IsSought}
use Rattle.round_pack.proofs.Chains.{sought_within, sought_in, sought_on, sought_ends, walk_smaller, is_none}
use Rattle.round_pack.proofs.chain.next_in.Goals as goal

pub offset_bounds-before-i : goal.offset_bounds-before-i
offset_bounds-before-i c =
    let w = subst (IsSought (length c.args.heads.now) c.args.b c.args.slots.now c.args.place c.loop-at.next) c.in-Some.is c.loop-at.invariant in
    let l = (sought_within _ _ _ c.requires.chained _ _ c.requires.within c.requires.there _ _ w).1 in omega arith

pub bounds-before-i : goal.bounds-before-i
bounds-before-i c =
    let w = subst (IsSought (length c.args.heads.now) c.args.b c.args.slots.now c.args.place c.loop-at.next) c.in-Some.is c.loop-at.invariant in
    (sought_within _ _ _ c.requires.chained _ _ c.requires.within c.requires.there _ _ w).1

pub loop-at-smaller : goal.loop-at-smaller
loop-at-smaller c =
    let w = subst (IsSought (length c.args.heads.now) c.args.b c.args.slots.now c.args.place c.loop-at.next) c.in-Some.is c.loop-at.invariant in
    walk_smaller c.args.heads.now c.args.before.now c.args.slots.now c.requires.chained c.args.b c.in-Some.i (sought_within _ _ _ c.requires.chained _ _ c.requires.within c.requires.there _ _ w).0
    (sought_in _ _ _ c.requires.chained _ _ c.requires.within c.requires.there _ _ w) c.loop-at.at c.in-Some.is

pub loop-at-preserved : goal.loop-at-preserved
loop-at-preserved c =
    let w = subst (IsSought (length c.args.heads.now) c.args.b c.args.slots.now c.args.place c.loop-at.next) c.in-Some.is c.loop-at.invariant in
    sought_on _ _ _ c.requires.chained _ _ c.requires.within c.requires.there _ _ w c.if-i-place.false

pub returns-in_default : goal.returns-in_default
returns-in_default c =
    let w = subst (IsSought (length c.args.heads.now) c.args.b c.args.slots.now c.args.place c.loop-at.next) (is_none c.loop-at.at c.in_default.not-Some) c.loop-at.invariant in
    absurd (sought_ends _ _ _ c.requires.chained _ _ c.requires.within c.requires.there _ w)
