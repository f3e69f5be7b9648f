use Rattle.std.proofs.Common.{◌≡◌, ◌∙◌, map, sym, ap, subst}
use Rattle.formula_law.specs.Formula.{demands, there}
use Rattle.formula_parts.specs.Building.{pair_at, asks, adding, Takes}
use Rattle.flip_cnf.specs.Building.{asked}
use Rattle.flip_cnf.proofs.build.flips.add_flip.Goals as goal

pub add_asked-requires : goal.add_asked-requires
add_asked-requires c =
    let e : c.in_ok-lits.lits ≡ demands c.args.lists.now (there c.args.lists.now) c.args.t (pair_at c.args.lists.now.flips c.args.n) = c.in_ok-lits.ensures in
    let same : map (asks c.made-unmade.result) c.in_ok-lits.lits ≡ asked c.args.lists.now c.args.k c.args.t (pair_at c.args.lists.now.flips c.args.n) = λ i. map (asks (c.made-unmade.ensures i)) (e i) in
    subst (Takes c.args.cnf.now) (sym same) c.requires.takes

pub returns : goal.returns
returns c =
    let e : c.in_ok-lits.lits ≡ demands c.args.lists.now (there c.args.lists.now) c.args.t (pair_at c.args.lists.now.flips c.args.n) = c.in_ok-lits.ensures in
    let same : map (asks c.made-unmade.result) c.in_ok-lits.lits ≡ asked c.args.lists.now c.args.k c.args.t (pair_at c.args.lists.now.flips c.args.n) = λ i. map (asks (c.made-unmade.ensures i)) (e i) in
    c.in_ok-add_asked.ensures ∙ ap (adding c.args.cnf.now) same
