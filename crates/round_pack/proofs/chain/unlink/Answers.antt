use Rattle.std.proofs.Common.{◌≡◌, ◌∙◌, ◌<◌, None, length, set, sym, ap, ap₂, subst, arith}
use Rattle.round_pack.specs.Chains.{AreChained, IsNext, bucket}
use Rattle.round_pack.proofs.Chains.{get_default, unlinked_last, unlinked_before}
use Rattle.round_pack.proofs.chain.unlink.Goals as goal

pub index_mut-requires : goal.index_mut-requires
index_mut-requires c = let l = (c.next_in.ensures.within c.in-Some.next c.in-Some.is).0 in let g = c.requires.chained.long in omega arith

pub returns-in-Some-clause-chained : goal.returns-in-Some-clause-chained
returns-in-Some-clause-chained c =
    let count : c.len.result ≡ length c.args.heads.now.items = omega arith in
    let value : c.bucket-b.result ≡ bucket (length c.args.heads.now.items) c.args.entry.now.flip.image.0 c.args.entry.now.flip.image.1 =
    (c.bucket-b.ensures.value ∙ ap₂ (λ n x. bucket n x c.high.result) count c.low.ensures.low ∙ ap (bucket (length c.args.heads.now.items) c.args.entry.now.flip.image.0) c.high.ensures.high) in
    let l : c.args.place < length c.args.before.now.items = (let r = c.requires.within in let g = c.requires.chained.long in omega arith) in
    let heads = ap length c.deref.ensures.value in
    let next = subst (λ n. IsNext n c.bucket-b.result c.args.slots.now c.args.place c.next_in.result) heads c.next_in.ensures in
    subst (λ x. AreChained c.args.heads.now.items (set c.args.before.now.items c.in-Some.next x) (set c.args.slots.now c.args.place None)) (sym (get_default _ _ _ l c.index-earlier.ensures))
    (unlinked_before c.args.heads.now.items c.args.before.now.items c.args.slots.now c.requires.chained c.args.place c.bucket-b.result c.args.entry.now c.requires.within c.requires.there value c.in-Some.next
    (subst (IsNext (length c.args.heads.now.items) c.bucket-b.result c.args.slots.now c.args.place) c.in-Some.is next))

pub returns-in-None-clause-chained : goal.returns-in-None-clause-chained
returns-in-None-clause-chained c =
    let count : c.len.result ≡ length c.args.heads.now.items = omega arith in
    let value : c.bucket-b.result ≡ bucket (length c.args.heads.now.items) c.args.entry.now.flip.image.0 c.args.entry.now.flip.image.1 =
    (c.bucket-b.ensures.value ∙ ap₂ (λ n x. bucket n x c.high.result) count c.low.ensures.low ∙ ap (bucket (length c.args.heads.now.items) c.args.entry.now.flip.image.0) c.high.ensures.high) in
    let l : c.args.place < length c.args.before.now.items = (let r = c.requires.within in let g = c.requires.chained.long in omega arith) in
    let within : c.bucket-b.result < length c.args.heads.now.items = (let w = c.bucket-b.ensures.within in omega arith) in
    let heads = ap length c.deref.ensures.value in
    let next = subst (λ n. IsNext n c.bucket-b.result c.args.slots.now c.args.place c.next_in.result) heads c.next_in.ensures in
    subst (λ x. AreChained (set c.args.heads.now.items c.bucket-b.result x) c.args.before.now.items (set c.args.slots.now c.args.place None)) (sym (get_default _ _ _ l c.index-earlier.ensures))
    (unlinked_last c.args.heads.now.items c.args.before.now.items c.args.slots.now c.requires.chained c.args.place c.bucket-b.result c.args.entry.now c.requires.within c.requires.there value within
    (subst (IsNext (length c.args.heads.now.items) c.bucket-b.result c.args.slots.now c.args.place) c.in-None.is next))
