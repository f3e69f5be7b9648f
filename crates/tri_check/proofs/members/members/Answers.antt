use Rattle.std.proofs.Common.{length, refl, sym, subst, IsPermutation}
use Rattle.tri_check.proofs.Pairs.{as_members, completed, edges_of_points}
use Rattle.tri_check.proofs.members.members.Goals as goal

pub returns-clause-completed : goal.returns-clause-completed
returns-clause-completed c = completed c.args.points.now c.args.pairs.now c.in_ok-edges.edges (length c.args.pairs.now) c.requires.pairs refl (as_members _ _ _ c.deref.result.now _ _ c.in_ok-items.ensures (subst (IsPermutation c.in_ok-items.items.items) (sym c.deref.ensures.value) c.in_ok-sort.ensures.permutation) c.in_ok-edges.ensures)

pub returns-clause-edges : goal.returns-clause-edges
returns-clause-edges c = edges_of_points c.args.points.now c.args.pairs.now c.in_ok-edges.edges (length c.args.pairs.now) c.requires.pairs c.requires.apart refl (as_members _ _ _ c.deref.result.now _ _ c.in_ok-items.ensures (subst (IsPermutation c.in_ok-items.items.items) (sym c.deref.ensures.value) c.in_ok-sort.ensures.permutation) c.in_ok-edges.ensures)
