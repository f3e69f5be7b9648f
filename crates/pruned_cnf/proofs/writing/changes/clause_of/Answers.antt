use Rattle.std.proofs.Common.{◌∙◌, ◌+◌, not, List, ◌++◌, ap}
use Rattle.log_law.specs.declared.Lit.{Lit}
use Rattle.formula_parts.specs.Lists.{edge_at}
use Rattle.pruned_cnf.specs.Groups.{place_literal, changing_flips}
use Rattle.pruned_cnf.proofs.writing.changes.clause_of.Goals as goal

pub returns : goal.returns
returns c =
    let q = c.args.numbering.now in
    let t = c.args.t in
    let e = edge_at q.frame.segments c.args.e in
    let rest = changing_flips q t c.args.chain.now.change e in
    let a = place_literal q t e c.comes-comes.result in
    let b = place_literal q (t + 1) e (not c.comes-comes.result) in
    c.in_ok-push_flips.ensures ∙ ap (λ (ls : List Lit). ls ++ rest) (c.in_ok-push_if_live-2.ensures ∙ ap (λ (ls : List Lit). ls ++ b) (c.in_ok-push_if_live.ensures ∙ ap (λ (ls : List Lit). ls ++ a) c.make-clause.ensures))
    ∙ ap (λ s. place_literal q t e s ++ place_literal q (t + 1) e (not s) ++ rest) c.comes-comes.ensures
