use Rattle.std.proofs.Common.{ℕ, ◌≤◌, ◌∙◌, List, ◌<◌, length, map, sym, ap, subst, arith}
use Rattle.std.specs.List.{All}
use Rattle.std.proofs.lemmas.List.{take_all}
use Rattle.std.proofs.lemmas.Grind.{get_or_default_zero}
use Rattle.tri_theory.specs.Crossings.{crossings}
use Rattle.crossing_law.specs.Digits.{digits}
use Rattle.pruned_cnf.proofs.Crossed.{digits_more, all_more}
use Rattle.pruned_cnf.proofs.counting.crossing_digits.Goals as goal

pub loop-n-preserved : goal.loop-n-preserved
loop-n-preserved c =
    let C = c.in_ok-counts.ensures in
    let l : c.loop-n.n < length c.args.lists.now.segments = omega (arith, c.loop-n-test.true, c.len-n-end.ensures, C.long) in
    let read = sym (c.index.ensures ∙ get_or_default_zero c.in_ok-counts.counts.items c.loop-n.n c.index.result.now (omega (arith, l, C.long))) in
    let more = digits_more c.args.triang.now.points c.args.lists.now c.requires c.args.triang.now.edges c.len.ensures.triangulation.triangulation c.in_ok-counts.counts.items c.loop-n.n c.index.result.now c.digits.result c.loop-n.found.items C l read c.digits.ensures.count c.loop-n.invariant.0 in
    let few = all_more (λ d. d ≤ 32) c.loop-n.found.items c.digits.result c.loop-n.invariant.1 c.digits.ensures.few in
    (◌∙◌ {A = List ℕ} c.in_ok-push.ensures.items more, subst (All (λ d. d ≤ 32)) (sym c.in_ok-push.ensures.items) few)

pub returns : goal.returns
returns c =
    let C = c.in_ok-counts.ensures in
    record {
      each = c.loop-n.invariant.0 ∙ ap (map (λ e. digits (crossings c.args.triang.now.points c.args.triang.now.edges e))) (take_all c.loop-n.n c.args.lists.now.segments (omega (arith, c.loop-n-test.false, c.len-n-end.ensures, C.long)));
      few = c.loop-n.invariant.1;
    }
