use Rattle.std.proofs.Common.{◌≡◌, ◌∙◌, ◌+◌, ◌-◌, ◌<◌, Some, length, get_or, set, refl, sym, ap, subst, arith}
use Rattle.formula_law.specs.Frames.{Frame}
use Rattle.formula_parts.specs.Building.{pair_at}
use Rattle.formula_parts.specs.Lists.{edge_at}
use Rattle.pruned_cnf.specs.Chains.{AreChained}
use Rattle.pruned_cnf.specs.Groups.{changed}
use Rattle.pruned_cnf.proofs.FlipChains.{nothing, chains_begun, chains_more, read_at}
use Rattle.pruned_cnf.proofs.writing.chains.chain_of.Goals as goal

pub loop-n-init : goal.loop-n-init
loop-n-init c =
    let s = ap (λ (F : Frame). length F.segments) c.lists_of-lists.ensures.lists in
    let f = ap (λ (F : Frame). length F.flips) c.lists_of-lists.ensures.lists in
    chains_begun c.args.numbering.now.frame c.args.change c.in_ok-firsts.firsts.items c.in_ok-nexts.nexts.items c.segments.result c.flips.result c.flips-n.result
    c.in_ok-firsts.ensures c.in_ok-nexts.ensures (c.segments.ensures.count ∙ s) (c.flips.ensures.count ∙ f) (c.flips-n.ensures.count ∙ f)

pub index-requires : goal.index-requires
index-requires c =
    let s = ap (λ (F : Frame). length F.segments) c.lists_of-lists.ensures.lists in
    let l = c.loop-n.invariant.segments in
    let w = c.changed-e.ensures.within in
    omega (arith, s, l, w)

pub index_mut-requires : goal.index_mut-requires
index_mut-requires c =
    let f = ap (λ (F : Frame). length F.flips) c.lists_of-lists.ensures.lists in
    let l = c.loop-n.invariant.flips in
    let w = c.loop-n.auto.n in
    omega (arith, f, l, w, c.loop-n-test.true, c.flips-n.ensures.count)

pub index_mut-requires-in-loop-n : goal.index_mut-requires-in-loop-n
index_mut-requires-in-loop-n c =
    let s = ap (λ (F : Frame). length F.segments) c.lists_of-lists.ensures.lists in
    let l = c.loop-n.invariant.segments in
    let w = c.changed-e.ensures.within in
    omega (arith, s, l, w)

pub loop-n-preserved : goal.loop-n-preserved
loop-n-preserved c =
    let q = c.args.numbering.now in
    let e = c.changed-e.result in
    let n = c.loop-n.n - 1 in
    let s = ap (λ (F : Frame). length F.segments) c.lists_of-lists.ensures.lists in
    let f = ap (λ (F : Frame). length F.flips) c.lists_of-lists.ensures.lists in
    let auto = c.loop-n.auto.n in
    let next : c.loop-n.n ≡ n + 1 = omega (arith, c.loop-n-test.true) in
    let C : AreChained q.frame c.args.change c.loop-n.firsts.items c.loop-n.nexts.items (n + 1) = subst (AreChained q.frame c.args.change c.loop-n.firsts.items c.loop-n.nexts.items) next c.loop-n.invariant in
    let hn : n < length q.frame.flips = omega (arith, f, auto, c.loop-n-test.true, c.flips-n.ensures.count) in
    let hk : e < length q.frame.segments = (let w = c.changed-e.ensures.within in omega (arith, s, w)) in
    let w : e < length c.loop-n.firsts.items = (let l = c.loop-n.invariant.segments in omega (arith, l, hk)) in
    let is : edge_at q.frame.segments e ≡ changed c.args.change (pair_at q.frame.flips n) = subst (λ (F : Frame). edge_at F.segments e ≡ changed c.args.change (pair_at F.flips n)) c.lists_of-lists.ensures.lists c.changed-e.ensures.changed in
    let at : c.index.result.now ≡ get_or c.loop-n.firsts.items e nothing = read_at c.loop-n.firsts.items e c.index.result.now w c.index.ensures in
    subst (λ x. AreChained q.frame c.args.change (set c.loop-n.firsts.items e (Some n)) (set c.loop-n.nexts.items n x) n) (sym at)
    (chains_more q.points q.frame c.lists_of-lists.ensures.query.frame c.args.change c.loop-n.firsts.items c.loop-n.nexts.items n e C hn hk is)

pub returns : goal.returns
returns c =
    let zero : c.loop-n.n ≡ 0 = omega (arith, c.loop-n-test.false) in
    record {
      kind = refl;
      chained = subst (AreChained c.args.numbering.now.frame c.args.change c.loop-n.firsts.items c.loop-n.nexts.items) zero c.loop-n.invariant;
    }
