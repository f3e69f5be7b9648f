use Rattle.std.proofs.Common.{rules, ◌∙◌, ◌<◌, sym, subst}
use Rattle.std.specs.Prelude.{AllPairs}
use Rattle.std.proofs.lemmas.List.Sorted.{IsNonDecreasingBy-from_sort_by_key}
use Rattle.std.proofs.lemmas.Result.{IfOk-weaker}
use Rattle.log_law.specs.Clauses.{Clause}
use Rattle.log_law.specs.Trails.{HaveSame, negated_at}
use Rattle.sat_search.proofs.LeftOver.{left_sorted, left_same}
use Rattle.sat_search.proofs.left.literals_left.Goals as goal

pub returns-clause-sorted : goal.returns-clause-sorted
returns-clause-sorted c = IfOk-weaker c.clause_of.result _ _ (λ clause e. subst (λ (d : Clause). AllPairs (λ k l. k.var < l.var) d) (sym (e ∙ c.deref.ensures.value)) sorted) c.clause_of.ensures
  where
    sorted : AllPairs (λ k l. k.var < l.var) c.sort_unstable_by_key.new.self.items
    sorted =
        left_sorted c.args.state.now c.requires.search c.args.places.now c.requires.within c.requires.descending c.in_ok-lits.lits.items c.sort_unstable_by_key.new.self.items c.in_ok-lits.ensures c.sort_unstable_by_key.ensures.permutation
        (IsNonDecreasingBy-from_sort_by_key (λ l. l.var) _ c.sort_unstable_by_key.ensures.sorted (λ a r q k. search rules))

pub returns-clause-same : goal.returns-clause-same
returns-clause-same c = IfOk-weaker c.clause_of.result _ _ (λ clause e. subst (λ (d : Clause). HaveSame d (negated_at c.args.state.now.trail c.args.places.now)) (sym (e ∙ c.deref.ensures.value)) same) c.clause_of.ensures
  where
    same : HaveSame c.sort_unstable_by_key.new.self.items (negated_at c.args.state.now.trail c.args.places.now)
    same = left_same c.args.state.now c.requires.search c.args.places.now c.requires.within c.requires.descending c.in_ok-lits.lits.items c.sort_unstable_by_key.new.self.items c.in_ok-lits.ensures c.sort_unstable_by_key.ensures.permutation
