use Rattle.std.proofs.Common.{List, sym, subst, arith}
use Rattle.side_table.specs.declared.side.Side.{Side}
use Rattle.side_table.specs.Sides.{HasSide, PutsSide}
use Rattle.side_table.specs.Slots.{AreDistinct, IsPlace, in_order}
use Rattle.side_table.proofs.Places.{distinct_set, has_in_order, has_in_slots}
use Rattle.side_table.proofs.Orders.{puts}
use Rattle.side_table.proofs.table.SideTable.put.Goals as goal

pub invariant_of-self : goal.invariant_of-self
invariant_of-self c =
    let ss = c.self.inside.slots.items in
    let P = subst (λ (ss : List Side). IsPlace ss c.args.u c.args.v c.in-Some.place) c.deref-3.ensures.value c.in-Some.ensures in
    let D = distinct_set ss c.args.u c.args.v c.in-Some.place c.args.t c.self.invariant.distinct P
    (λ x y h. c.requires.fresh x y (subst (λ (ss : List Side). HasSide ss x y) c.self.view_is (has_in_order ss x y h))) in
    record {
      distinct = subst AreDistinct (sym c.exchange.ensures.slots) D;
      buckets = λ l. (let e = c.exchange.ensures.heads_len in let w = P.within in let b = c.self.invariant.buckets (omega arith) in omega arith);
      chained = c.exchange.ensures.chained;
    }

pub unreachable-requires : goal.unreachable-requires
unreachable-requires c =
    let N = subst (λ (ss : List Side). ¬ HasSide ss c.args.u c.args.v) c.deref-3.ensures.value c.in-None.ensures in
    N (has_in_slots c.self.inside.slots.items c.args.u c.args.v (subst (λ (ss : List Side). HasSide ss c.args.u c.args.v) (sym c.self.view_is) c.requires.there))

pub returns : goal.returns
returns c =
    let ss = c.self.inside.slots.items in
    let P = subst (λ (ss : List Side). IsPlace ss c.args.u c.args.v c.in-Some.place) c.deref-3.ensures.value c.in-Some.ensures in
    let D = distinct_set ss c.args.u c.args.v c.in-Some.place c.args.t c.self.invariant.distinct P
    (λ x y h. c.requires.fresh x y (subst (λ (ss : List Side). HasSide ss x y) c.self.view_is (has_in_order ss x y h))) in
    subst (λ (old : List Side). PutsSide old (in_order c.exchange.new.slots.items) c.args.u c.args.v c.args.t) c.self.view_is
    (subst (λ (new : List Side). PutsSide (in_order ss) (in_order new) c.args.u c.args.v c.args.t) (sym c.exchange.ensures.slots)
    (puts ss c.args.u c.args.v c.in-Some.place c.args.t c.self.invariant.distinct P D))
