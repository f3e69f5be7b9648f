use Rattle.std.proofs.Common.{◌≤◌, subst}
use Rattle.std.specs.List.{All}
use Rattle.pruned_cnf.specs.Queries.{Query, IsMostDigits}
use Rattle.pruned_cnf.proofs.Held.{most_of_all}
use Rattle.pruned_cnf.proofs.query.Query.most_after_from.Goals as goal

pub returns-clause-most : goal.returns-clause-most
returns-clause-most c = subst (λ (q : Query). IsMostDigits q q.from c.most.result) c.self.view_is (most_of_all _ _ _ c.self.inside.after_from.items c.most.result c.self.invariant.after_from (subst (All (λ d. d ≤ c.most.result)) c.deref.ensures.value c.most.ensures.most))
