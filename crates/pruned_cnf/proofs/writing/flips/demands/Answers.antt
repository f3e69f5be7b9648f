use Rattle.std.proofs.Common.{◌≡◌, ◌∙◌, ◌+◌, ◌<◌, true, false, ◌++◌, length, Contains, sym, ap, subst}
use Rattle.std.specs.List.{flat_map}
use Rattle.std.proofs.lemmas.List.Elements.{Contains-get_or}
use Rattle.formula_law.specs.Frames.{Frame}
use Rattle.formula_law.specs.Formula.{sides}
use Rattle.formula_parts.specs.Building.{no_pair, pair_at}
use Rattle.formula_parts.specs.Lists.{edge_at, linked, pair_of}
use Rattle.pruned_cnf.specs.Groups.{place_literal, demands_in, stays}
use Rattle.pruned_cnf.proofs.AddedWhere.{five_in_all}
use Rattle.pruned_cnf.proofs.writing.flips.demands.Goals as goal

pub flip-g-requires : goal.flip-g-requires
flip-g-requires c = subst (λ (F : Frame). c.args.n < length F.flips) (sym c.lists_of-lists.ensures.lists) c.requires.within

pub push_if_live-requires-clause-within : goal.push_if_live-requires-clause-within
push_if_live-requires-clause-within c = subst (λ (F : Frame). c.flip-g.result.0 < length F.segments) c.lists_of-lists.ensures.lists c.flip-g.ensures.within.0

pub push_if_live-requires-2-clause-within : goal.push_if_live-requires-2-clause-within
push_if_live-requires-2-clause-within c = subst (λ (F : Frame). c.flip-g.result.0 < length F.segments) c.lists_of-lists.ensures.lists c.flip-g.ensures.within.0

pub push_if_live-requires-3-clause-within : goal.push_if_live-requires-3-clause-within
push_if_live-requires-3-clause-within c = subst (λ (F : Frame). c.flip-g.result.1 < length F.segments) c.lists_of-lists.ensures.lists c.flip-g.ensures.within.1

pub push_if_live-requires-4-clause-within : goal.push_if_live-requires-4-clause-within
push_if_live-requires-4-clause-within c = subst (λ (F : Frame). c.flip-g.result.1 < length F.segments) c.lists_of-lists.ensures.lists c.flip-g.ensures.within.1

pub push_sides-requires-clause-flip : goal.push_sides-requires-clause-flip
push_sides-requires-clause-flip c =
    let q = c.args.numbering.now in
    let F = c.lists_of-lists.result.now in
    let ends : pair_of c.segment.result c.segment-2.result ≡ linked F.segments c.flip-g.result = λ i. pair_of (c.segment.ensures i) (c.segment-2.ensures i) in
    let w : c.args.n < length F.flips = subst (λ (F : Frame). c.args.n < length F.flips) (sym c.lists_of-lists.ensures.lists) c.requires.within in
    subst (λ (F : Frame). Contains F.flips (pair_of c.segment.result c.segment-2.result)) c.lists_of-lists.ensures.lists (subst (Contains F.flips) (c.flip-g.ensures.pair ∙ sym ends) (Contains-get_or F.flips c.args.n no_pair w))

pub returns : goal.returns
returns c =
    let q = c.args.numbering.now in
    let t = c.args.t in
    let g = c.flip-g.result in
    let e = edge_at q.frame.segments g.0 in
    let f = edge_at q.frame.segments g.1 in
    let same = c.lists_of-lists.ensures.lists in
    let is : pair_at q.frame.flips c.args.n ≡ linked q.frame.segments g = subst (λ (F : Frame). pair_at F.flips c.args.n ≡ linked F.segments g) same c.flip-g.ensures.pair in
    let first : c.segment.result ≡ e = subst (λ (F : Frame). c.segment.result ≡ edge_at F.segments g.0) same c.segment.ensures in
    let second : c.segment-2.result ≡ f = subst (λ (F : Frame). c.segment-2.result ≡ edge_at F.segments g.1) same c.segment-2.ensures in
    let x1 = place_literal q t e true in
    let x2 = place_literal q (t + 1) e false in
    let x3 = place_literal q t f false in
    let x4 = place_literal q (t + 1) f true in
    let rest = flat_map (stays q t) (sides q.frame (pair_of c.segment.result c.segment-2.result)) in
    five_in_all c.make-lits.result c.push_if_live.new.lits c.push_if_live-2.new.lits c.push_if_live-3.new.lits c.push_if_live-4.new.lits c.push_sides.new.lits x1 x2 x3 x4 rest
    c.make-lits.ensures c.in_ok-push_if_live.ensures c.in_ok-push_if_live-2.ensures c.in_ok-push_if_live-3.ensures c.in_ok-push_if_live-4.ensures c.in_ok-push_sides.ensures
    ∙ (λ i. x1 ++ x2 ++ x3 ++ x4 ++ flat_map (stays q t) (sides q.frame (pair_of (first i) (second i))))
    ∙ ap (demands_in q t) (sym is)
