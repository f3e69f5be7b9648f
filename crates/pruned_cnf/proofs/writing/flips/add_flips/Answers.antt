use Rattle.std.proofs.Common.{◌≡◌, ◌∙◌, ◌<◌, ◌≤◌, false, length, map, sym, ap, subst, arith}
use Rattle.std.specs.List.{flat_map}
use Rattle.formula_law.specs.Frames.{Frame}
use Rattle.formula_law.specs.Formula.{literal}
use Rattle.formula_parts.specs.Building.{no_pair, asks, adding, Takes}
use Rattle.formula_parts.proofs.Appending.{begun, takes_next, added, done}
use Rattle.pruned_cnf.specs.Groups.{asked, flips_in, demands_in}
use Rattle.pruned_cnf.specs.Queries.{is_live_flip_in, flip_in}
use Rattle.pruned_cnf.proofs.Chosen.{flat_chosen}
use Rattle.pruned_cnf.proofs.writing.flips.add_flips.Goals as goal

pub loop-n-init : goal.loop-n-init
loop-n-init c = begun (asked c.args.numbering.now c.args.t) c.args.numbering.now.frame.flips c.args.cnf.now

pub add_flip-requires-clause-within : goal.add_flip-requires-clause-within
add_flip-requires-clause-within c =
    let s : length c.lists_of.result.now.flips ≡ length c.args.numbering.now.frame.flips = ap (λ (F : Frame). length F.flips) c.lists_of.ensures.lists in
    omega (arith, c.loop-n-test.true, c.flips-n-end.ensures.count, s)

pub add_flip-requires-clause-takes : goal.add_flip-requires-clause-takes
add_flip-requires-clause-takes c =
    let q = c.args.numbering.now in
    let same : flips_in q c.args.t ≡ flat_map (asked q c.args.t) q.frame.flips = flat_chosen (is_live_flip_in q c.args.t) (λ g. map (asks (literal (flip_in q c.args.t g) false)) (demands_in q c.args.t g)) q.frame.flips in
    let s : length c.lists_of.result.now.flips ≡ length q.frame.flips = ap (λ (F : Frame). length F.flips) c.lists_of.ensures.lists in
    let l : c.loop-n.n < length q.frame.flips = omega (arith, c.loop-n-test.true, c.flips-n-end.ensures.count, s) in
    takes_next (asked q c.args.t) q.frame.flips c.args.cnf.now c.loop-n.n no_pair c.loop-n.cnf l (subst (Takes c.args.cnf.now) same c.requires.takes) c.loop-n.invariant

pub loop-n-preserved : goal.loop-n-preserved
loop-n-preserved c =
    let q = c.args.numbering.now in
    let s : length c.lists_of.result.now.flips ≡ length q.frame.flips = ap (λ (F : Frame). length F.flips) c.lists_of.ensures.lists in
    let l : c.loop-n.n < length q.frame.flips = omega (arith, c.loop-n-test.true, c.flips-n-end.ensures.count, s) in
    added (asked q c.args.t) q.frame.flips c.args.cnf.now c.loop-n.n no_pair c.loop-n.cnf c.add_flip.new.cnf l c.loop-n.invariant c.in_ok-add_flip.ensures

pub returns : goal.returns
returns c =
    let q = c.args.numbering.now in
    let same : flips_in q c.args.t ≡ flat_map (asked q c.args.t) q.frame.flips = flat_chosen (is_live_flip_in q c.args.t) (λ g. map (asks (literal (flip_in q c.args.t g) false)) (demands_in q c.args.t g)) q.frame.flips in
    let s : length c.lists_of.result.now.flips ≡ length q.frame.flips = ap (λ (F : Frame). length F.flips) c.lists_of.ensures.lists in
    let l : length q.frame.flips ≤ c.loop-n.n = omega (arith, c.loop-n-test.false, c.flips-n-end.ensures.count, s) in
    done (asked q c.args.t) q.frame.flips c.args.cnf.now c.loop-n.n c.loop-n.cnf l c.loop-n.invariant ∙ ap (adding c.args.cnf.now) (sym same)
