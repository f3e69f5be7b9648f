use Rattle.std.proofs.Common.{◌∙◌, refl, ap, inr}
use Rattle.std.specs.FinMap.{insert}
use Rattle.std.proofs.lemmas.Result.{err_from_is_err_and}
use Rattle.host_io.proofs.mem_store.MemStoreStore.write.Goals as goal

pub returns-in_err-hold-in-Some-clause-content : goal.returns-in_err-hold-in-Some-clause-content
returns-in_err-hold-in-Some-clause-content c =
    let p = err_from_is_err_and c.from_residual.result c.from_residual.ensures.1 in
    rw (p.1, p.2) (_, refl, ap (λ s. s.held) c.in_err-hold-in-Some.ensures.err ∙ ap (λ s. s.held) c.self.view_is)

pub returns-in_err-hold-in-None-clause-content : goal.returns-in_err-hold-in-None-clause-content
returns-in_err-hold-in-None-clause-content c =
    let p = err_from_is_err_and c.from_residual-in_err-hold-in-None.result c.from_residual-in_err-hold-in-None.ensures.1 in
    rw (p.1, p.2) (_, refl, ap (λ s. s.held) c.in_err-hold-in-None.ensures.err ∙ ap (λ s. s.held) c.self.view_is)

pub returns-in_ok-hold-in-Some-clause-content : goal.returns-in_ok-hold-in-Some-clause-content
returns-in_ok-hold-in-Some-clause-content c =
    (_, refl, inr (c.in-Some.keep, ap (λ s. s.held) c.self-in-Some.view_is ∙ ap (λ s. s.held) c.in_ok-hold-in-Some.ensures.ok ∙ ap (λ s. insert s.held c.args.name.now c.front.result.now) c.self.view_is ∙ ap (insert c.args.self.now.held c.args.name.now) c.front.ensures))

pub returns-in_ok-hold-in-None-clause-content : goal.returns-in_ok-hold-in-None-clause-content
returns-in_ok-hold-in-None-clause-content c =
    (_, refl, ap (λ s. s.held) c.in_ok-hold-in-None.ensures.ok ∙ ap (λ s. insert s.held c.args.name.now c.args.bytes.now) c.self.view_is)
