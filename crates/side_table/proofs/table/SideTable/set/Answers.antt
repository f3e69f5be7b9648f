use Rattle.std.proofs.Common.{List, length, set, sym, subst, arith}
use Rattle.side_table.specs.declared.side.Side.{Side}
use Rattle.side_table.specs.Sides.{HasSide, PutsSide}
use Rattle.side_table.specs.Chains.{AreChained}
use Rattle.side_table.specs.Slots.{IsPlace, in_order}
use Rattle.side_table.proofs.Places.{distinct_set, same_keys, has_in_slots}
use Rattle.side_table.proofs.Orders.{puts}
use Rattle.side_table.proofs.table.SideTable.set.Goals as goal

pub invariant_of-self : goal.invariant_of-self
invariant_of-self c =
    let ss = c.self.inside.slots.items in
    let t = c.args.t in
    let P = subst (λ (ss : List Side). IsPlace ss c.args.t.from c.args.t.to c.in-Some.place) c.deref-3.ensures.value c.in-Some.ensures in
    record {
      distinct = distinct_set ss t.from t.to c.in-Some.place t c.self.invariant.distinct P (λ x y h w. (sym w.0, sym w.1));
      buckets = λ l. (let w = P.within in c.self.invariant.buckets (omega arith));
      chained = subst (AreChained c.self.inside.heads.items c.self.inside.before.items) (sym (same_keys (length c.self.inside.heads.items) ss c.in-Some.place t P)) c.self.invariant.chained;
    }

pub unreachable-requires : goal.unreachable-requires
unreachable-requires c =
    let N = subst (λ (ss : List Side). ¬ HasSide ss c.args.t.from c.args.t.to) c.deref-3.ensures.value c.in-None.ensures in
    N (has_in_slots c.self.inside.slots.items c.args.t.from c.args.t.to (subst (λ (ss : List Side). HasSide ss c.args.t.from c.args.t.to) (sym c.self.view_is) c.requires))

pub returns : goal.returns
returns c =
    let ss = c.self.inside.slots.items in
    let t = c.args.t in
    let P = subst (λ (ss : List Side). IsPlace ss c.args.t.from c.args.t.to c.in-Some.place) c.deref-3.ensures.value c.in-Some.ensures in
    let D = distinct_set ss t.from t.to c.in-Some.place t c.self.invariant.distinct P (λ x y h w. (sym w.0, sym w.1)) in
    subst (λ (old : List Side). PutsSide old (in_order (set ss c.in-Some.place t)) t.from t.to t) c.self.view_is
    (puts ss t.from t.to c.in-Some.place t c.self.invariant.distinct P D)
