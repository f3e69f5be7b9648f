use Rattle.std.proofs.Common.{◌<◌, Some, None, length, set, sym, subst, subst₂, arith}
use Rattle.side_table.specs.Chains.{AreChained, IsNext}
use Rattle.side_table.proofs.Chains.{get_default, linked_last, linked_before}
use Rattle.side_table.proofs.chain.link_at.Goals as goal

pub index-requires : goal.index-requires
index-requires c =
    let K = c.requires.chained in
    let C : AreChained c.deref.result.now c.deref-2.result.now K.keys = subst₂ (λ hs bs. AreChained hs bs K.keys) (sym c.deref.ensures.value) (sym c.deref-2.ensures.value) K.chained in
    let l = ((c.next_after.ensures K.keys C).within c.in-Some.next c.in-Some.is).0 in let g = K.chained.long in omega arith

pub index_mut-requires-in-Some : goal.index_mut-requires-in-Some
index_mut-requires-in-Some c =
    let K = c.requires.chained in
    let C : AreChained c.deref.result.now c.deref-2.result.now K.keys = subst₂ (λ hs bs. AreChained hs bs K.keys) (sym c.deref.ensures.value) (sym c.deref-2.ensures.value) K.chained in
    let l = ((c.next_after.ensures K.keys C).within c.in-Some.next c.in-Some.is).0 in let g = K.chained.long in omega arith

pub returns-in-Some-clause-chained : goal.returns-in-Some-clause-chained
returns-in-Some-clause-chained c keys C s =
    let D : AreChained c.deref.result.now c.deref-2.result.now keys = subst₂ (λ hs bs. AreChained hs bs keys) (sym c.deref.ensures.value) (sym c.deref-2.ensures.value) C in
    let N : IsNext c.args.b keys c.args.place (Some c.in-Some.next) = subst (IsNext c.args.b keys c.args.place) c.in-Some.is (c.next_after.ensures keys D) in
    let l : c.in-Some.next < length c.args.before.now.items = (let w = (N.within c.in-Some.next (λ _. Some c.in-Some.next)).0 in let g = C.long in omega arith) in
    subst (λ x. AreChained c.args.heads.now.items (set (set c.args.before.now.items c.args.place x) c.in-Some.next (Some c.args.place)) (set keys c.args.place (Some c.args.b))) (sym (get_default _ _ _ l c.index.ensures))
    (linked_before c.args.heads.now.items c.args.before.now.items keys C c.args.place c.args.b (let w = c.requires.within in let g = C.long in omega arith) c.requires.bucket s c.in-Some.next N)

pub returns-in-None-clause-chained : goal.returns-in-None-clause-chained
returns-in-None-clause-chained c keys C s =
    let D : AreChained c.deref.result.now c.deref-2.result.now keys = subst₂ (λ hs bs. AreChained hs bs keys) (sym c.deref.ensures.value) (sym c.deref-2.ensures.value) C in
    let N : IsNext c.args.b keys c.args.place None = subst (IsNext c.args.b keys c.args.place) c.in-None.is (c.next_after.ensures keys D) in
    subst (λ x. AreChained (set c.args.heads.now.items c.args.b (Some c.args.place)) (set c.args.before.now.items c.args.place x) (set keys c.args.place (Some c.args.b))) (sym (get_default _ _ _ c.requires.bucket c.index-in-None.ensures))
    (linked_last c.args.heads.now.items c.args.before.now.items keys C c.args.place c.args.b (let w = c.requires.within in let g = C.long in omega arith) c.requires.bucket s N)
