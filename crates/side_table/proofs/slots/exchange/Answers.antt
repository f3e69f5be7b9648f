use Rattle.std.proofs.Common.{◌≡◌, ◌∙◌, ◌<◌, None, length, get_or-set_same, set, ap, subst, arith}
use Rattle.side_table.specs.Chains.{AreChained}
use Rattle.side_table.specs.Slots.{bucket, keys_of}
use Rattle.side_table.proofs.Places.{length_keys, own_key, moved_keys}
use Rattle.side_table.proofs.slots.exchange.Goals as goal

pub unlink-requires-clause-within : goal.unlink-requires-clause-within
unlink-requires-clause-within c =
    let g = c.requires.kept.chained.long in
    let l = length_keys (length c.args.heads.now.items) c.args.slots.now.items in
    let w = c.requires.within in omega arith

pub link_at-requires-clause-chained : goal.link_at-requires-clause-chained
link_at-requires-clause-chained c =
    let n = length c.args.heads.now.items in
    let count : c.len.result ≡ length c.args.heads.now.items = omega arith in
    let there = own_key n c.args.slots.now.items c.args.place c.index-s.result.now c.bucket-out.result c.requires.within c.index-s.ensures
    (c.bucket-out.ensures.value ∙ ap (λ k. bucket k c.index-s.result.now.from c.index-s.result.now.to) count) in
    record { keys = set (keys_of n c.args.slots.now.items) c.args.place None; chained = c.unlink.ensures.chained (keys_of n c.args.slots.now.items) c.requires.kept.chained there }

pub link_at-requires-clause-within : goal.link_at-requires-clause-within
link_at-requires-clause-within c =
    let g = c.requires.kept.chained.long in
    let l = length_keys (length c.args.heads.now.items) c.args.slots.now.items in
    let e = c.unlink.ensures.len in
    let w = c.requires.within in omega arith

pub returns-clause-chained : goal.returns-clause-chained
returns-clause-chained c =
    let n = length c.args.heads.now.items in
    let count : c.len.result ≡ length c.args.heads.now.items = omega arith in
    let there = own_key n c.args.slots.now.items c.args.place c.index-s.result.now c.bucket-out.result c.requires.within c.index-s.ensures
    (c.bucket-out.ensures.value ∙ ap (λ k. bucket k c.index-s.result.now.from c.index-s.result.now.to) count) in
    let C1 = c.unlink.ensures.chained (keys_of n c.args.slots.now.items) c.requires.kept.chained there in
    let w : c.args.place < length (keys_of n c.args.slots.now.items) = (let l = length_keys n c.args.slots.now.items in let w = c.requires.within in omega arith) in
    let C2 = c.link_at.ensures.chained (set (keys_of n c.args.slots.now.items) c.args.place None) C1 (get_or-set_same (keys_of n c.args.slots.now.items) c.args.place None None w) in
    let more : c.len-2.result ≡ length c.args.heads.now.items = (let e = c.unlink.ensures.heads_len in omega arith) in
    subst (AreChained c.link_at.new.heads.items c.link_at.new.before.items)
    (moved_keys n (length c.link_at.new.heads.items) c.args.slots.now.items c.args.place c.args.t c.bucket-into.result (c.link_at.ensures.heads_len ∙ c.unlink.ensures.heads_len)
    (c.bucket-into.ensures.value ∙ ap (λ k. bucket k c.args.t.from c.args.t.to) more)) C2
