use Rattle.std.proofs.Common.{rules, ◌≡◌, ◌∙◌, ◌++◌, ◌∷◌, [], length, set, sym, ap, subst₂, Some}
use Rattle.side_table.specs.Chains.{AreChained}
use Rattle.side_table.proofs.Chains.{linked, get_default}
use Rattle.side_table.proofs.chain.link.Goals as goal

pub returns-clause-chained : goal.returns-clause-chained
returns-clause-chained c keys C =
    let place : c.len-place.result ≡ length c.args.before.now.items = search rules in
    subst₂ (λ hs bs. AreChained hs bs (keys ++ Some c.args.b ∷ [])) (ap (λ n. set c.args.heads.now.items c.args.b (Some n)) (sym C.long ∙ sym place))
    (sym (c.push_reserved.ensures.items ∙ ap (λ x. c.args.before.now.items ++ x ∷ []) (get_default _ _ _ c.requires.bucket c.index.ensures)))
    (linked c.args.heads.now.items c.args.before.now.items keys c.args.b C c.requires.bucket)
