use Rattle.std.proofs.Common.{sym, subst₂}
use Rattle.formula_law.specs.Frames.{MayFlip}
use Rattle.tri_check.proofs.Searches.{refuted}
use Rattle.formula_parts.specs.Found.{IsSwap}
use Rattle.formula_parts.proofs.Found.{found_add, found_skip}
use Rattle.formula_parts.proofs.Whole.{read_edge, read_segment}
use Rattle.formula_parts.proofs.flips.add_flip.Goals as goal

pub may_flip-requires-clause-from : goal.may_flip-requires-clause-from
may_flip-requires-clause-from c = read_segment c.args.inst.now.points c.args.segments.now c.requires.segments c.args.i c.index-segments-i.result c.requires.from c.index-segments-i.is

pub may_flip-requires-clause-to : goal.may_flip-requires-clause-to
may_flip-requires-clause-to c = read_segment c.args.inst.now.points c.args.segments.now c.requires.segments c.args.j c.index-segments-j.result c.requires.to c.index-segments-j.is

pub returns-then-not-may_flip : goal.returns-then-not-may_flip
returns-then-not-may_flip c =
    let e = read_edge c.args.segments.now c.args.i c.index-segments-i.result c.requires.from c.index-segments-i.is in
    let f = read_edge c.args.segments.now c.args.j c.index-segments-j.result c.requires.to c.index-segments-j.is in
    found_skip (IsSwap c.args.inst.now.points c.args.segments.now) 4096 c.args.pairs.now.items c.args.i c.args.j c.requires.found
    (λ p. refuted _ _ c.may_flip.ensures c.if-not-may_flip.true (subst₂ (MayFlip c.args.inst.now.points) e f p.2))

pub returns : goal.returns
returns c =
    let e = read_edge c.args.segments.now c.args.i c.index-segments-i.result c.requires.from c.index-segments-i.is in
    let f = read_edge c.args.segments.now c.args.j c.index-segments-j.result c.requires.to c.index-segments-j.is in
    found_add (IsSwap c.args.inst.now.points c.args.segments.now) 4096 c.args.pairs.now.items c.args.i c.args.j c.requires.found c.push.new.self.items c.in_ok-push.ensures.items
    (c.requires.from, c.requires.to, subst₂ (MayFlip c.args.inst.now.points) (sym e) (sym f) (c.may_flip.ensures.0 c.if-not-may_flip.false))
