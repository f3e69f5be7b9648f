use Rattle.std.proofs.Common.{◌≡◌, ◌∙◌, ◌<◌, ◌≤◌, ◌++◌, length, sym, ap, subst, arith}
use Rattle.formula_law.specs.Frames.{Frame}
use Rattle.formula_parts.specs.Building.{adding, Takes}
use Rattle.formula_parts.specs.Lists.{no_edge, edge_at}
use Rattle.formula_parts.proofs.Appending.{begun, takes_next, takes_first, next_takes, next_added, added, done}
use Rattle.pruned_cnf.specs.declared.writing.chains.Change.TheVariants.{Leave, Come}
use Rattle.pruned_cnf.specs.Chains.{IsChain}
use Rattle.pruned_cnf.specs.Groups.{change_of}
use Rattle.pruned_cnf.proofs.writing.changes.add_changes.Goals as goal

pub loop-e-init : goal.loop-e-init
loop-e-init c = begun (λ e. change_of c.args.numbering.now c.args.t Leave e ++ change_of c.args.numbering.now c.args.t Come e) c.args.numbering.now.frame.segments c.args.cnf.now

pub add_change-requires-clause-chain : goal.add_change-requires-clause-chain
add_change-requires-clause-chain c = subst (λ ch. IsChain c.args.numbering.now.frame ch c.args.leaving.now) (sym c.requires.leaving.kind) c.requires.leaving

pub add_change-requires-clause-within : goal.add_change-requires-clause-within
add_change-requires-clause-within c =
    let s : length c.lists_of.result.now.segments ≡ length c.args.numbering.now.frame.segments = ap (λ (F : Frame). length F.segments) c.lists_of.ensures.lists in
    omega (arith, c.loop-e-test.true, c.segments-e-end.ensures.count, s)

pub add_change-requires-clause-takes : goal.add_change-requires-clause-takes
add_change-requires-clause-takes c =
    let q = c.args.numbering.now in
    let s : length c.lists_of.result.now.segments ≡ length q.frame.segments = ap (λ (F : Frame). length F.segments) c.lists_of.ensures.lists in
    let l : c.loop-e.e < length q.frame.segments = omega (arith, c.loop-e-test.true, c.segments-e-end.ensures.count, s) in
    let L = change_of q c.args.t Leave (edge_at q.frame.segments c.loop-e.e) in
    let K = change_of q c.args.t Come (edge_at q.frame.segments c.loop-e.e) in
    let T : Takes c.loop-e.cnf (L ++ K) = takes_next (λ e. change_of q c.args.t Leave e ++ change_of q c.args.t Come e) q.frame.segments c.args.cnf.now c.loop-e.e no_edge c.loop-e.cnf l c.requires.takes c.loop-e.invariant in
    subst (λ ch. Takes c.loop-e.cnf (change_of q c.args.t ch (edge_at q.frame.segments c.loop-e.e))) (sym c.requires.leaving.kind) (takes_first c.loop-e.cnf L K T)

pub add_change-requires-in-loop-e-clause-chain : goal.add_change-requires-in-loop-e-clause-chain
add_change-requires-in-loop-e-clause-chain c = subst (λ ch. IsChain c.args.numbering.now.frame ch c.args.coming.now) (sym c.requires.coming.kind) c.requires.coming

pub add_change-requires-in-loop-e-clause-within : goal.add_change-requires-in-loop-e-clause-within
add_change-requires-in-loop-e-clause-within c =
    let s : length c.lists_of.result.now.segments ≡ length c.args.numbering.now.frame.segments = ap (λ (F : Frame). length F.segments) c.lists_of.ensures.lists in
    omega (arith, c.loop-e-test.true, c.segments-e-end.ensures.count, s)

pub add_change-requires-in-loop-e-clause-takes : goal.add_change-requires-in-loop-e-clause-takes
add_change-requires-in-loop-e-clause-takes c =
    let q = c.args.numbering.now in
    let s : length c.lists_of.result.now.segments ≡ length q.frame.segments = ap (λ (F : Frame). length F.segments) c.lists_of.ensures.lists in
    let l : c.loop-e.e < length q.frame.segments = omega (arith, c.loop-e-test.true, c.segments-e-end.ensures.count, s) in
    let L = change_of q c.args.t Leave (edge_at q.frame.segments c.loop-e.e) in
    let K = change_of q c.args.t Come (edge_at q.frame.segments c.loop-e.e) in
    let T : Takes c.loop-e.cnf (L ++ K) = takes_next (λ e. change_of q c.args.t Leave e ++ change_of q c.args.t Come e) q.frame.segments c.args.cnf.now c.loop-e.e no_edge c.loop-e.cnf l c.requires.takes c.loop-e.invariant in
    let first : c.add_change.new.cnf ≡ adding c.loop-e.cnf L = c.in_ok-add_change.ensures ∙ ap (λ ch. adding c.loop-e.cnf (change_of q c.args.t ch (edge_at q.frame.segments c.loop-e.e))) c.requires.leaving.kind in
    subst (λ ch. Takes c.add_change.new.cnf (change_of q c.args.t ch (edge_at q.frame.segments c.loop-e.e))) (sym c.requires.coming.kind) (next_takes c.loop-e.cnf c.add_change.new.cnf L K T first)

pub loop-e-preserved : goal.loop-e-preserved
loop-e-preserved c =
    let q = c.args.numbering.now in
    let s : length c.lists_of.result.now.segments ≡ length q.frame.segments = ap (λ (F : Frame). length F.segments) c.lists_of.ensures.lists in
    let l : c.loop-e.e < length q.frame.segments = omega (arith, c.loop-e-test.true, c.segments-e-end.ensures.count, s) in
    let L = change_of q c.args.t Leave (edge_at q.frame.segments c.loop-e.e) in
    let K = change_of q c.args.t Come (edge_at q.frame.segments c.loop-e.e) in
    let first : c.add_change.new.cnf ≡ adding c.loop-e.cnf L = c.in_ok-add_change.ensures ∙ ap (λ ch. adding c.loop-e.cnf (change_of q c.args.t ch (edge_at q.frame.segments c.loop-e.e))) c.requires.leaving.kind in
    let second : c.add_change-in-loop-e.new.cnf ≡ adding c.add_change.new.cnf K = c.in_ok-add_change-2.ensures ∙ ap (λ ch. adding c.add_change.new.cnf (change_of q c.args.t ch (edge_at q.frame.segments c.loop-e.e))) c.requires.coming.kind in
    added (λ e. change_of q c.args.t Leave e ++ change_of q c.args.t Come e) q.frame.segments c.args.cnf.now c.loop-e.e no_edge c.loop-e.cnf c.add_change-in-loop-e.new.cnf l c.loop-e.invariant
    (next_added c.loop-e.cnf c.add_change.new.cnf c.add_change-in-loop-e.new.cnf L K first second)

pub returns : goal.returns
returns c =
    let q = c.args.numbering.now in
    let s : length c.lists_of.result.now.segments ≡ length q.frame.segments = ap (λ (F : Frame). length F.segments) c.lists_of.ensures.lists in
    let l : length q.frame.segments ≤ c.loop-e.e = omega (arith, c.loop-e-test.false, c.segments-e-end.ensures.count, s) in
    done (λ e. change_of q c.args.t Leave e ++ change_of q c.args.t Come e) q.frame.segments c.args.cnf.now c.loop-e.e c.loop-e.cnf l c.loop-e.invariant
