use Rattle.std.proofs.Common.{◌<◌, length, sym, subst₂, arith}
use Rattle.tri_theory.specs.Triangulations.{Crosses}
use Rattle.tri_check.proofs.Searches.{refuted}
use Rattle.formula_parts.specs.Found.{IsCrossing}
use Rattle.formula_parts.proofs.Found.{found_add, found_skip}
use Rattle.formula_parts.proofs.Whole.{read_edge, read_segment}
use Rattle.formula_parts.proofs.crossings.add_crossing.Goals as goal

pub crosses-requires-clause-first : goal.crosses-requires-clause-first
crosses-requires-clause-first c = (read_segment c.args.inst.now.points c.args.segments.now c.requires.segments c.args.i c.index-segments-i.result (omega (arith, c.requires.order, c.requires.within)) c.index-segments-i.is).in_range

pub crosses-requires-clause-second : goal.crosses-requires-clause-second
crosses-requires-clause-second c = (read_segment c.args.inst.now.points c.args.segments.now c.requires.segments c.args.j c.index-segments-j.result c.requires.within c.index-segments-j.is).in_range

pub returns-then-not-crosses : goal.returns-then-not-crosses
returns-then-not-crosses c =
    let l : c.args.i < length c.args.segments.now = omega (arith, c.requires.order, c.requires.within) in
    let e = read_edge c.args.segments.now c.args.i c.index-segments-i.result l c.index-segments-i.is in
    let f = read_edge c.args.segments.now c.args.j c.index-segments-j.result c.requires.within c.index-segments-j.is in
    found_skip (IsCrossing c.args.inst.now.points c.args.segments.now) 4096 c.args.pairs.now.items c.args.i c.args.j c.requires.found
    (λ p. refuted _ _ c.crosses.ensures c.if-not-crosses.true (subst₂ (Crosses c.args.inst.now.points) e f p.2))

pub returns : goal.returns
returns c =
    let l : c.args.i < length c.args.segments.now = omega (arith, c.requires.order, c.requires.within) in
    let e = read_edge c.args.segments.now c.args.i c.index-segments-i.result l c.index-segments-i.is in
    let f = read_edge c.args.segments.now c.args.j c.index-segments-j.result c.requires.within c.index-segments-j.is in
    found_add (IsCrossing c.args.inst.now.points c.args.segments.now) 4096 c.args.pairs.now.items c.args.i c.args.j c.requires.found c.push.new.self.items c.in_ok-push.ensures.items
    (c.requires.order, c.requires.within, subst₂ (Crosses c.args.inst.now.points) (sym e) (sym f) (c.crosses.ensures.0 c.if-not-crosses.false))
