use Rattle.std.proofs.Common.{List, length, subst}
use Rattle.edge_table.specs.declared.edge.Edge.{Edge}
use Rattle.formula_parts.specs.Found.{AreFound, IsCrossing, IsSwap}
use Rattle.formula_parts.proofs.Whole.{lists_are, frame_is}
use Rattle.formula_parts.proofs.lists.Lists.of.Goals as goal

pub invariant_of-result : goal.invariant_of-result
invariant_of-result c =
    lists_are c.args.inst.now.points c.in_ok-segments.segments.items c.in_ok-segments.ensures c.in_ok-crossings.crossings.items c.in_ok-flips.flips.items
    (subst (λ (s : List Edge). AreFound (IsCrossing c.args.inst.now.points s) 4096 c.in_ok-crossings.crossings.items (length s) 0) c.deref.ensures.value c.in_ok-crossings.ensures)
    (subst (λ (s : List Edge). AreFound (IsSwap c.args.inst.now.points s) 4096 c.in_ok-flips.flips.items (length s) 0) c.deref-2.ensures.value c.in_ok-flips.ensures)

pub returns : goal.returns
returns c =
    frame_is c.args.inst.now.points c.in_ok-segments.segments.items c.in_ok-segments.ensures c.in_ok-crossings.crossings.items c.in_ok-flips.flips.items
    (subst (λ (s : List Edge). AreFound (IsCrossing c.args.inst.now.points s) 4096 c.in_ok-crossings.crossings.items (length s) 0) c.deref.ensures.value c.in_ok-crossings.ensures)
    (subst (λ (s : List Edge). AreFound (IsSwap c.args.inst.now.points s) 4096 c.in_ok-flips.flips.items (length s) 0) c.deref-2.ensures.value c.in_ok-flips.ensures)
