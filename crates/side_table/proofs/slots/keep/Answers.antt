use Rattle.std.proofs.Common.{◌≡◌, ◌∙◌, ◌++◌, ◌∷◌, [], List, length, sym, ap, subst, arith}
use Rattle.side_table.specs.declared.side.Side.{Side}
use Rattle.side_table.specs.Chains.{AreChained}
use Rattle.side_table.specs.Slots.{bucket, keys_of}
use Rattle.side_table.proofs.Places.{more_keys}
use Rattle.side_table.proofs.slots.keep.Goals as goal

pub returns-clause-chained : goal.returns-clause-chained
returns-clause-chained c =
    let n = length c.args.heads.now.items in
    let count : c.len.result ≡ length c.args.heads.now.items = omega arith in
    let C = subst (λ bs. AreChained c.args.heads.now.items bs (keys_of n c.args.slots.now.items)) (sym c.reserve.ensures.items) c.requires.chained in
    subst (AreChained c.link.new.heads.items c.link.new.before.items)
    (more_keys n (length c.link.new.heads.items) c.args.slots.now.items c.push_reserved.new.self.items c.args.t c.bucket-b.result c.link.ensures.heads_len
    (c.push_reserved.ensures.items ∙ ap (λ (ss : List Side). ss ++ c.args.t ∷ []) c.reserve-2.ensures.items)
    (c.bucket-b.ensures.value ∙ ap (λ k. bucket k c.args.t.from c.args.t.to) count))
    (c.link.ensures.chained (keys_of n c.args.slots.now.items) C)
