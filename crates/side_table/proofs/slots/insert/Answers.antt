use Rattle.std.proofs.Common.{◌≡◌, ◌∙◌, List, sym, subst, arith}
use Rattle.side_table.specs.declared.side.Side.{Side}
use Rattle.side_table.specs.Sides.{HasSide}
use Rattle.side_table.specs.Slots.{AreDistinct}
use Rattle.side_table.proofs.Places.{grown}
use Rattle.side_table.proofs.slots.insert.Goals as goal

pub returns-then-len-clause-kept : goal.returns-then-len-clause-kept
returns-then-len-clause-kept c =
    grown c.keep.result _ _ c.args.slots.now.items _ c.args.t c.requires.kept.distinct c.requires.fresh (let e = c.keep.ensures.heads_len in let l = c.if-len.true in omega arith) c.keep.ensures.chained c.keep.ensures.added c.keep.ensures.unchanged

pub returns-clause-kept : goal.returns-clause-kept
returns-clause-kept c =
    let same : c.in_ok-more.same.items ≡ c.args.slots.now.items = c.in_ok-more.ensures.same ∙ c.deref.ensures.value in
    grown c.keep-2.result _ _ c.in_ok-more.same.items _ c.args.t (subst AreDistinct (sym same) c.requires.kept.distinct)
    (subst (λ (ss : List Side). ¬ HasSide ss c.args.t.from c.args.t.to) (sym same) c.requires.fresh) (let e = c.keep-2.ensures.heads_len in let l = c.in_ok-more.ensures.buckets in omega arith) c.keep-2.ensures.chained c.keep-2.ensures.added c.keep-2.ensures.unchanged
