use Rattle.std.proofs.Common.{◌≡◌, ◌+◌, ◌<◌, length, get_or, sym, subst, arith}
use Rattle.formula_parts.specs.Lists.{edge_at}
use Rattle.pruned_cnf.specs.Chains.{IsNext}
use Rattle.pruned_cnf.specs.Groups.{is_change_of}
use Rattle.pruned_cnf.proofs.FlipChains.{IsWalked, nothing, walk_starts, walk_within, next_at, walk_on, walk_ends, read_at, at_end, left, left_smaller}
use Rattle.pruned_cnf.proofs.writing.changes.push_flips.Goals as goal

pub index-at-requires : goal.index-at-requires
index-at-requires c = let s = c.requires.chain.chained.segments in let w = c.requires.within in omega arith

pub loop-at-init : goal.loop-at-init
loop-at-init c =
    let q = c.args.numbering.now in
    let C = c.requires.chain.chained in
    let e = edge_at q.frame.segments c.args.e in
    let w : c.args.e < length c.args.chain.now.firsts.items = (let s = C.segments in let w = c.requires.within in omega arith) in
    let at : c.index-at.result.now ≡ get_or c.args.chain.now.firsts.items c.args.e nothing = read_at c.args.chain.now.firsts.items c.args.e c.index-at.result.now w c.index-at.ensures in
    walk_starts q c.args.t c.args.chain.now.change e c.args.clause.now c.index-at.result.now
    (subst (IsNext (is_change_of c.args.chain.now.change e) q.frame.flips 0) (sym at) (C.first c.args.e c.requires.within))

pub push_if_made-requires-clause-within : goal.push_if_made-requires-clause-within
push_if_made-requires-clause-within c =
    let q = c.args.numbering.now in
    let e = edge_at q.frame.segments c.args.e in
    let W = subst (IsWalked q c.args.t c.args.chain.now.change e c.args.clause.now c.loop-at.clause) c.in-Some.is c.loop-at.invariant in
    walk_within q c.args.t c.args.chain.now.change e c.args.clause.now c.loop-at.clause c.in-Some.n W

pub index-at-requires-in-Some : goal.index-at-requires-in-Some
index-at-requires-in-Some c =
    let q = c.args.numbering.now in
    let e = edge_at q.frame.segments c.args.e in
    let W = subst (IsWalked q c.args.t c.args.chain.now.change e c.args.clause.now c.loop-at.clause) c.in-Some.is c.loop-at.invariant in
    let l = walk_within q c.args.t c.args.chain.now.change e c.args.clause.now c.loop-at.clause c.in-Some.n W in
    let s = c.requires.chain.chained.flips in
    omega arith

pub loop-at-smaller : goal.loop-at-smaller
loop-at-smaller c =
    let q = c.args.numbering.now in
    let C = c.requires.chain.chained in
    let e = edge_at q.frame.segments c.args.e in
    let W = subst (IsWalked q c.args.t c.args.chain.now.change e c.args.clause.now c.loop-at.clause) c.in-Some.is c.loop-at.invariant in
    let l = walk_within q c.args.t c.args.chain.now.change e c.args.clause.now c.loop-at.clause c.in-Some.n W in
    let w : c.in-Some.n < length c.args.chain.now.nexts.items = (let s = C.flips in omega arith) in
    let at : c.index-at-in-Some.result.now ≡ get_or c.args.chain.now.nexts.items c.in-Some.n nothing = read_at c.args.chain.now.nexts.items c.in-Some.n c.index-at-in-Some.result.now w c.index-at-in-Some.ensures in
    let N = subst (IsNext (is_change_of c.args.chain.now.change e) q.frame.flips (c.in-Some.n + 1)) (sym at) (next_at q c.args.t c.args.chain.now.change e c.args.clause.now c.args.chain.now.firsts.items c.args.chain.now.nexts.items C c.loop-at.clause c.in-Some.n W) in
    subst (λ o. left (length q.frame.flips) c.index-at-in-Some.result.now < left (length q.frame.flips) o) (sym c.in-Some.is)
    (left_smaller (is_change_of c.args.chain.now.change e) q.frame.flips c.in-Some.n c.index-at-in-Some.result.now l N)

pub loop-at-preserved : goal.loop-at-preserved
loop-at-preserved c =
    let q = c.args.numbering.now in
    let C = c.requires.chain.chained in
    let e = edge_at q.frame.segments c.args.e in
    let W = subst (IsWalked q c.args.t c.args.chain.now.change e c.args.clause.now c.loop-at.clause) c.in-Some.is c.loop-at.invariant in
    let l = walk_within q c.args.t c.args.chain.now.change e c.args.clause.now c.loop-at.clause c.in-Some.n W in
    let w : c.in-Some.n < length c.args.chain.now.nexts.items = (let s = C.flips in omega arith) in
    let at : c.index-at-in-Some.result.now ≡ get_or c.args.chain.now.nexts.items c.in-Some.n nothing = read_at c.args.chain.now.nexts.items c.in-Some.n c.index-at-in-Some.result.now w c.index-at-in-Some.ensures in
    subst (IsWalked q c.args.t c.args.chain.now.change e c.args.clause.now c.push_if_made.new.lits) (sym at)
    (walk_on q c.args.t c.args.chain.now.change e c.args.clause.now c.args.chain.now.firsts.items c.args.chain.now.nexts.items C c.loop-at.clause c.in-Some.n W c.push_if_made.new.lits c.in_ok-push_if_made.ensures)

pub returns : goal.returns
returns c =
    let q = c.args.numbering.now in
    let e = edge_at q.frame.segments c.args.e in
    let W = subst (IsWalked q c.args.t c.args.chain.now.change e c.args.clause.now c.loop-at.clause) (at_end c.loop-at.at c.in_default.not-Some) c.loop-at.invariant in
    walk_ends q c.args.t c.args.chain.now.change e c.args.clause.now c.loop-at.clause W
