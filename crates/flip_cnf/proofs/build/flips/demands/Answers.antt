use Rattle.std.proofs.Common.{◌≡◌, ◌∙◌, ◌∷◌, Contains, sym, ap, subst}
use Rattle.std.specs.List.{flat_map}
use Rattle.std.proofs.lemmas.List.Elements.{Contains-get_or}
use Rattle.formula_law.specs.Formula.{sides, demands, there}
use Rattle.formula_parts.specs.Lists.{edge_at, linked, pair_of}
use Rattle.formula_parts.specs.Building.{no_pair}
use Rattle.flip_cnf.specs.Building.{stays}
use Rattle.flip_cnf.proofs.Asked.{five}
use Rattle.flip_cnf.proofs.build.flips.demands.Goals as goal

pub push_sides-requires-clause-flip : goal.push_sides-requires-clause-flip
push_sides-requires-clause-flip c =
    let ends : pair_of c.segment.result c.segment-2.result ≡ linked c.args.lists.now.segments c.flip-g.result = λ i. pair_of (c.segment.ensures i) (c.segment-2.ensures i) in
    subst (Contains c.args.lists.now.flips) (c.flip-g.ensures.pair ∙ sym ends) (Contains-get_or c.args.lists.now.flips c.args.n no_pair c.requires.within)

pub returns : goal.returns
returns c =
    let F = c.args.lists.now in
    let t = c.args.t in
    let e = edge_at F.segments c.flip-g.result.0 in
    let f = edge_at F.segments c.flip-g.result.1 in
    let rest = flat_map (stays F t) (sides F (pair_of c.segment.result c.segment-2.result)) in
    five c.make-lits.result c.push.new.self c.push-2.new.self c.push-3.new.self c.push-4.new.self c.push_sides.new.lits rest c.there.result c.there-2.result c.there-3.result c.there-4.result
    c.make-lits.ensures c.in_ok-push.ensures.ok c.in_ok-push-2.ensures.ok c.in_ok-push-3.ensures.ok c.in_ok-push-4.ensures.ok c.in_ok-push_sides.ensures
    ∙ (λ i. c.there.ensures i ∷ c.there-2.ensures i ∷ c.there-3.ensures i ∷ c.there-4.ensures i ∷ flat_map (stays F t) (sides F (pair_of (c.segment.ensures i) (c.segment-2.ensures i))))
    ∙ ap (demands F (there F) t) (sym c.flip-g.ensures.pair)
