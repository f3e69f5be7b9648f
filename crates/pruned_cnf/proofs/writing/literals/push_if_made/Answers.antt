use Rattle.std.proofs.Common.{◌≡◌, ◌∙◌, true, List, [], ◌∷◌, ◌++◌, OnOk, sym, ap, subst}
use Rattle.std.proofs.lemmas.List.{append-nil}
use Rattle.log_law.specs.declared.Lit.{Lit}
use Rattle.formula_law.specs.Formula.{literal}
use Rattle.formula_parts.specs.Building.{pair_at}
use Rattle.pruned_cnf.specs.Queries.{is_live_flip_in, flip_in}
use Rattle.pruned_cnf.proofs.Chosen.{there, not_there}
use Rattle.pruned_cnf.proofs.writing.literals.push_if_made.Goals as goal

pub returns-in-Some : goal.returns-in-Some
returns-in-Some c =
    let q = c.args.numbering.now in
    let g = pair_at q.frame.flips c.args.n in
    subst (λ (ls : List Lit). OnOk c.push.result (c.push.new.self ≡ c.args.lits.now ++ ls))
    (sym (there (λ v. literal v true ∷ []) (is_live_flip_in q c.args.t g) (flip_in q c.args.t g) c.in-Some.var c.in-Some.ensures)) c.push.ensures.ok

pub returns-in-None : goal.returns-in-None
returns-in-None c =
    let q = c.args.numbering.now in
    let g = pair_at q.frame.flips c.args.n in
    sym (append-nil c.args.lits.now) ∙ ap (λ (ls : List Lit). c.args.lits.now ++ ls) (sym (not_there (λ v. literal v true ∷ []) (is_live_flip_in q c.args.t g) (flip_in q c.args.t g) c.in-None.ensures))
