use Rattle.std.proofs.Common.{subst, arith}
use Rattle.side_table.specs.Chains.{IsSought}
use Rattle.side_table.proofs.Chains.{sought_within, sought_in, sought_found, sought_on, sought_ends, walk_smaller, is_none}
use Rattle.side_table.proofs.chain.next_after.Goals as goal

pub offset_bounds-before-i : goal.offset_bounds-before-i
offset_bounds-before-i c =
    let K = c.requires.chained in
    let w = subst (IsSought c.args.b K.keys c.args.place c.loop-at.next) c.in-Some.is (c.loop-at.invariant K.keys K.chained) in
    let l = (sought_within _ _ _ K.chained _ _ _ _ w).1 in omega arith

pub bounds-before-i : goal.bounds-before-i
bounds-before-i c =
    let K = c.requires.chained in
    let w = subst (IsSought c.args.b K.keys c.args.place c.loop-at.next) c.in-Some.is (c.loop-at.invariant K.keys K.chained) in
    (sought_within _ _ _ K.chained _ _ _ _ w).1

pub loop-at-smaller : goal.loop-at-smaller
loop-at-smaller c =
    let K = c.requires.chained in
    let w = subst (IsSought c.args.b K.keys c.args.place c.loop-at.next) c.in-Some.is (c.loop-at.invariant K.keys K.chained) in
    walk_smaller c.args.heads.now c.args.before.now K.keys K.chained c.args.b c.in-Some.i (sought_within _ _ _ K.chained _ _ _ _ w).0 (sought_in _ _ _ K.chained _ _ _ _ w) c.loop-at.at c.in-Some.is

pub loop-at-preserved : goal.loop-at-preserved
loop-at-preserved c keys C =
    let w = subst (IsSought c.args.b keys c.args.place c.loop-at.next) c.in-Some.is (c.loop-at.invariant keys C) in
    sought_on _ _ _ C _ _ _ _ w (let n = c.if-i-place.false in omega arith)

pub returns-then-i-place : goal.returns-then-i-place
returns-then-i-place c keys C =
    let w = subst (IsSought c.args.b keys c.args.place c.loop-at.next) c.in-Some.is (c.loop-at.invariant keys C) in
    sought_found _ _ _ C _ _ _ _ w c.if-i-place.true

pub returns-in_default : goal.returns-in_default
returns-in_default c keys C =
    let w = subst (IsSought c.args.b keys c.args.place c.loop-at.next) (is_none c.loop-at.at c.in_default.not-Some) (c.loop-at.invariant keys C) in
    sought_ends _ _ _ C _ _ _ w
