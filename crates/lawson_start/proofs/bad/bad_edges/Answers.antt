use Rattle.std.proofs.Common.{◌≤◌, length, sym, subst, arith}
use Rattle.std.proofs.lemmas.Option.{get_or_from_slice_get}
use Rattle.edge_table.specs.declared.edge.Edge.{Edge}
use Rattle.tri_check.specs.Layouts.{Layout}
use Rattle.lawson_start.specs.Steps.{AreBadBefore, IsRetested}
use Rattle.lawson_start.proofs.Sets.{none_tested, one_tested, all_tested}
use Rattle.lawson_start.proofs.bad.bad_edges.Goals as goal

pub loop-i-init : goal.loop-i-init
loop-i-init c = subst (λ es. AreBadBefore c.args.t.now.points c.args.t.now.edges es 0) (sym c.make-bad.ensures) (none_tested _ _)

pub loop-i-preserved : goal.loop-i-preserved
loop-i-preserved c =
    one_tested _ _ _ _ c.edge_at.result c.loop-i.i (λ (d : Edge). get_or_from_slice_get c.args.t.now.edges c.loop-i.i c.edge_at.result d c.edge_at.ensures)
    (subst (λ (v : Layout). IsRetested v.points v.edges c.loop-i.bad c.retest.new.bad c.edge_at.result) c.requires c.in_ok-retest.ensures) c.loop-i.invariant

pub returns : goal.returns
returns c =
    let l : length c.args.t.now.edges ≤ c.loop-i.i = (let h = c.loop-i-test.false in let e = c.len-i-end.ensures.len in omega arith) in
    all_tested _ _ _ c.loop-i.i l c.loop-i.invariant
