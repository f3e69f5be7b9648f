use Rattle.std.proofs.Common.{rules, ◌≡◌, ◌∙◌, ◌<◌, ◌++◌, ◌∷◌, [], length, set, sym, ap, ap₂, subst₂, Some, arith}
use Rattle.round_pack.specs.Chains.{AreChained, bucket}
use Rattle.round_pack.proofs.Chains.{linked, get_default}
use Rattle.round_pack.proofs.chain.link.Goals as goal

pub returns-clause-chained : goal.returns-clause-chained
returns-clause-chained c slots C =
    let count : c.len.result ≡ length c.args.heads.now.items = search rules in
    let place : c.len-place.result ≡ length c.args.before.now.items = search rules in
    let within : c.bucket-b.result < length c.args.heads.now.items = (let w = c.bucket-b.ensures.within in omega arith) in
    let value : c.bucket-b.result ≡ bucket (length c.args.heads.now.items) c.args.entry.now.flip.image.0 c.args.entry.now.flip.image.1 =
    (c.bucket-b.ensures.value ∙ ap₂ (λ n x. bucket n x c.high.result) count c.low.ensures.low ∙ ap (bucket (length c.args.heads.now.items) c.args.entry.now.flip.image.0) c.high.ensures.high) in
    subst₂ (λ hs bs. AreChained hs bs (slots ++ Some c.args.entry.now ∷ [])) (ap (λ n. set c.args.heads.now.items c.bucket-b.result (Some n)) (sym C.long ∙ sym place))
    (sym (c.push_reserved.ensures.items ∙ ap (λ x. c.args.before.now.items ++ x ∷ []) (get_default _ _ _ within c.index.ensures)))
    (linked c.args.heads.now.items c.args.before.now.items slots c.args.entry.now c.bucket-b.result C value within)
