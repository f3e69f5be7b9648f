use Rattle.std.proofs.Common.{◌∙◌, ◌<◌, length, ◌++◌, ◌∷◌, [], sym, ap, arith}
use Rattle.std.proofs.lemmas.Option.{get_or_from_slice_get}
use Rattle.round_pack.proofs.Groups.{took}
use Rattle.round_pack.proofs.group.seq_of.Goals as goal

pub loop-i-preserved : goal.loop-i-preserved
loop-i-preserved c =
    let l : c.loop-i.i < length c.args.set.now = (let h = c.loop-i-test.true in let e = c.len-i-end.ensures.len in omega arith) in
    c.in_ok-push.ensures.ok ∙ ap (λ xs. xs ++ c.at.result ∷ []) c.loop-i.invariant
    ∙ took c.args.set.now c.loop-i.i c.at.result l (sym (get_or_from_slice_get c.args.set.now c.loop-i.i c.at.result c.at.result c.at.ensures))
