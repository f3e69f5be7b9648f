use Rattle.std.proofs.Common.{◌≡◌, ◌∙◌, ◌<◌, ◌≤◌, length, sym, ap, subst, subst₂, arith}
use Rattle.tri_check.specs.Layouts.{IsTriangulated}
use Rattle.side_table.specs.Sides.{IsOrderedSides}
use Rattle.flip_mesh.specs.Sides.{edges_of}
use Rattle.flip_mesh.proofs.Whole.{read_at, members_still, all_more, collected}
use Rattle.flip_mesh.proofs.mesh.Mesh.to_triang.Goals as goal

pub loop-i-preserved : goal.loop-i-preserved
loop-i-preserved c =
    let l : c.loop-i.i < length c.in_ok-sides.sides.items = (let h = c.loop-i-test.true in let e = c.len-i-end.ensures in omega arith) in
    let at = read_at _ _ c.index-s.result.now l c.index-s.ensures in
    let a = c.in_ok-add_forward.ensures in
    record {
      ascending = a.ascending;
      members = members_still _ _ _ c.index-s.result.now c.loop-i.i l at a.added c.loop-i.invariant.members;
      all = all_more _ _ _ c.index-s.result.now c.loop-i.i at a.added c.loop-i.invariant.all;
    }

pub from_edges-requires : goal.from_edges-requires
from_edges-requires c =
    let l : length c.in_ok-sides.sides.items ≤ c.loop-i.i = (let h = c.loop-i-test.false in let e = c.len-i-end.ensures in omega arith) in
    let o = subst IsOrderedSides (sym c.in_ok-sides.ensures) c.self.invariant.ordered in
    let is = collected c.in_ok-sides.sides.items c.loop-i.edges c.loop-i.i l o c.loop-i.invariant.ascending c.loop-i.invariant.members c.loop-i.invariant.all in
    subst₂ IsTriangulated (sym c.in_ok-points.ensures.cases) (sym (is ∙ ap edges_of c.in_ok-sides.ensures)) c.self.invariant.triangulated

pub returns : goal.returns
returns c =
    let l : length c.in_ok-sides.sides.items ≤ c.loop-i.i = (let h = c.loop-i-test.false in let e = c.len-i-end.ensures in omega arith) in
    let o = subst IsOrderedSides (sym c.in_ok-sides.ensures) c.self.invariant.ordered in
    let is = collected c.in_ok-sides.sides.items c.loop-i.edges c.loop-i.i l o c.loop-i.invariant.ascending c.loop-i.invariant.members c.loop-i.invariant.all in
    let ps = c.from_edges.ensures.points ∙ c.in_ok-points.ensures.cases in
    let es = c.from_edges.ensures.edges ∙ is ∙ ap edges_of c.in_ok-sides.ensures in
    let same : c.from_edges.result ≡ record { points = c.self.inside.points.value; edges = edges_of c.self.inside.sides } = λ i. record { points = ps i; edges = es i } in
    same ∙ c.self.view_is
