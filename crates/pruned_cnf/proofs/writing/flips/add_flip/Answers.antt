use Rattle.std.proofs.Common.{◌≡◌, ◌∙◌, false, List, map, OnOk, sym, ap, subst}
use Rattle.log_law.specs.Clauses.{Clause}
use Rattle.formula_law.specs.Formula.{literal}
use Rattle.formula_parts.specs.Building.{pair_at, asks, adding, Takes}
use Rattle.formula_parts.proofs.Appending.{adding_none}
use Rattle.pruned_cnf.specs.Groups.{asked, demands_in}
use Rattle.pruned_cnf.specs.Queries.{is_live_flip_in, flip_in}
use Rattle.pruned_cnf.proofs.Chosen.{there, not_there}
use Rattle.pruned_cnf.proofs.writing.flips.add_flip.Goals as goal

pub add_asked-requires : goal.add_asked-requires
add_asked-requires c =
    let q = c.args.numbering.now in
    let g = pair_at q.frame.flips c.args.n in
    let same : map (asks (literal c.in-Some.var false)) c.in_ok-lits-in-Some.lits ≡ asked q c.args.t g = ap (map (asks (literal c.in-Some.var false))) c.in_ok-lits-in-Some.ensures ∙ sym (there (λ v. map (asks (literal v false)) (demands_in q c.args.t g)) (is_live_flip_in q c.args.t g) (flip_in q c.args.t g) c.in-Some.var c.in-Some.ensures) in
    subst (Takes c.args.cnf.now) (sym same) c.requires.takes

pub returns-in_ok-lits-in-Some : goal.returns-in_ok-lits-in-Some
returns-in_ok-lits-in-Some c =
    let q = c.args.numbering.now in
    let g = pair_at q.frame.flips c.args.n in
    let same : map (asks (literal c.in-Some.var false)) c.in_ok-lits-in-Some.lits ≡ asked q c.args.t g = ap (map (asks (literal c.in-Some.var false))) c.in_ok-lits-in-Some.ensures ∙ sym (there (λ v. map (asks (literal v false)) (demands_in q c.args.t g)) (is_live_flip_in q c.args.t g) (flip_in q c.args.t g) c.in-Some.var c.in-Some.ensures) in
    subst (λ (ds : List Clause). OnOk c.add_asked.result (c.add_asked.new.cnf ≡ adding c.args.cnf.now ds)) same c.add_asked.ensures

pub returns-in-None : goal.returns-in-None
returns-in-None c =
    let q = c.args.numbering.now in
    let g = pair_at q.frame.flips c.args.n in
    adding_none c.args.cnf.now ∙ ap (adding c.args.cnf.now) (sym (not_there (λ v. map (asks (literal v false)) (demands_in q c.args.t g)) (is_live_flip_in q c.args.t g) (flip_in q c.args.t g) c.in-None.ensures))
