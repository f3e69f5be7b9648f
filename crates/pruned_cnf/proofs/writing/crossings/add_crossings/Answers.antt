use Rattle.std.proofs.Common.{◌≡◌, ◌∙◌, ◌<◌, ◌≤◌, ◌&&◌, length, sym, ap, subst, arith}
use Rattle.std.specs.List.{flat_map}
use Rattle.formula_law.specs.Frames.{Frame}
use Rattle.formula_parts.specs.Building.{no_pair, adding, Takes}
use Rattle.formula_parts.proofs.Appending.{begun, takes_next, added, done}
use Rattle.pruned_cnf.specs.Groups.{crossing_clause, crossings_in, not_both}
use Rattle.pruned_cnf.specs.Queries.{live_in}
use Rattle.pruned_cnf.proofs.Chosen.{chosen}
use Rattle.pruned_cnf.proofs.writing.crossings.add_crossings.Goals as goal

pub loop-n-init : goal.loop-n-init
loop-n-init c = begun (crossing_clause c.args.numbering.now c.args.t) c.args.numbering.now.frame.crossings c.args.cnf.now

pub add_crossing-requires-clause-within : goal.add_crossing-requires-clause-within
add_crossing-requires-clause-within c =
    let s : length c.lists_of.result.now.crossings ≡ length c.args.numbering.now.frame.crossings = ap (λ (F : Frame). length F.crossings) c.lists_of.ensures.lists in
    omega (arith, c.loop-n-test.true, c.crossings-n-end.ensures.count, s)

pub add_crossing-requires-clause-takes : goal.add_crossing-requires-clause-takes
add_crossing-requires-clause-takes c =
    let q = c.args.numbering.now in
    let same : crossings_in q c.args.t ≡ flat_map (crossing_clause q c.args.t) q.frame.crossings = chosen (λ g. live_in q c.args.t g.0 && live_in q c.args.t g.1) (not_both q c.args.t) q.frame.crossings in
    let s : length c.lists_of.result.now.crossings ≡ length q.frame.crossings = ap (λ (F : Frame). length F.crossings) c.lists_of.ensures.lists in
    let l : c.loop-n.n < length q.frame.crossings = omega (arith, c.loop-n-test.true, c.crossings-n-end.ensures.count, s) in
    takes_next (crossing_clause q c.args.t) q.frame.crossings c.args.cnf.now c.loop-n.n no_pair c.loop-n.cnf l (subst (Takes c.args.cnf.now) same c.requires.takes) c.loop-n.invariant

pub loop-n-preserved : goal.loop-n-preserved
loop-n-preserved c =
    let q = c.args.numbering.now in
    let s : length c.lists_of.result.now.crossings ≡ length q.frame.crossings = ap (λ (F : Frame). length F.crossings) c.lists_of.ensures.lists in
    let l : c.loop-n.n < length q.frame.crossings = omega (arith, c.loop-n-test.true, c.crossings-n-end.ensures.count, s) in
    added (crossing_clause q c.args.t) q.frame.crossings c.args.cnf.now c.loop-n.n no_pair c.loop-n.cnf c.add_crossing.new.cnf l c.loop-n.invariant c.in_ok-add_crossing.ensures

pub returns : goal.returns
returns c =
    let q = c.args.numbering.now in
    let same : crossings_in q c.args.t ≡ flat_map (crossing_clause q c.args.t) q.frame.crossings = chosen (λ g. live_in q c.args.t g.0 && live_in q c.args.t g.1) (not_both q c.args.t) q.frame.crossings in
    let s : length c.lists_of.result.now.crossings ≡ length q.frame.crossings = ap (λ (F : Frame). length F.crossings) c.lists_of.ensures.lists in
    let l : length q.frame.crossings ≤ c.loop-n.n = omega (arith, c.loop-n-test.false, c.crossings-n-end.ensures.count, s) in
    done (crossing_clause q c.args.t) q.frame.crossings c.args.cnf.now c.loop-n.n c.loop-n.cnf l c.loop-n.invariant ∙ ap (adding c.args.cnf.now) (sym same)
