use Rattle.std.proofs.Common.{◌≡◌, ◌∙◌, ◌<◌, ◌≤◌, length, sym, ap, subst, arith}
use Rattle.tri_check.specs.Layouts.{Layout}
use Rattle.side_table.specs.Sides.{IsOrderedSides}
use Rattle.flip_mesh.specs.Sides.{edges_of}
use Rattle.flip_mesh.specs.Build.{AreFlippable}
use Rattle.flip_mesh.proofs.Whole.{read_at}
use Rattle.flip_mesh.proofs.Listed.{Listed, listed_none, listed_more, listed_all}
use Rattle.flip_mesh.proofs.mesh.Mesh.flippable_list.Goals as goal

pub loop-i-preserved : goal.loop-i-preserved
loop-i-preserved c =
    let l : c.loop-i.i < length c.in_ok-sides.sides.items = (let h = c.loop-i-test.true in let e = c.len-i-end.ensures in omega arith) in
    listed_more _ _ _ _ _ c.index.result.now c.loop-i.i (subst IsOrderedSides (sym c.in_ok-sides.ensures) c.self.invariant.ordered) l (read_at _ _ c.index.result.now l c.index.ensures)
    c.in_ok-add_flippable.ensures c.loop-i.invariant

pub loop-i-init : goal.loop-i-init
loop-i-init c = subst (λ es. Listed c.args.self.now.points c.args.self.now.edges c.in_ok-sides.sides.items es 0) (sym c.make-list.ensures) (listed_none _ _ _)

pub returns : goal.returns
returns c =
    let l : length c.in_ok-sides.sides.items ≤ c.loop-i.i = (let h = c.loop-i-test.false in let e = c.len-i-end.ensures in omega arith) in
    let e : edges_of c.in_ok-sides.sides.items ≡ c.args.self.now.edges = ap edges_of c.in_ok-sides.ensures ∙ ap (λ (v : Layout). v.edges) c.self.view_is in
    subst (λ es. AreFlippable c.args.self.now.points es c.loop-i.list) e
    (listed_all _ _ _ c.loop-i.i l (subst (λ es. Listed c.args.self.now.points es c.in_ok-sides.sides.items c.loop-i.list c.loop-i.i) (sym e) c.loop-i.invariant))
