use Rattle.std.proofs.Common.{◌≤◌, subst}
use Rattle.std.specs.List.{All}
use Rattle.pruned_cnf.specs.Queries.{Query, IsMostDigits}
use Rattle.pruned_cnf.proofs.Held.{most_of_all}
use Rattle.pruned_cnf.proofs.query.Query.most_before_to.Goals as goal

pub returns-clause-most : goal.returns-clause-most
returns-clause-most c = subst (λ (q : Query). IsMostDigits q q.to c.most.result) c.self.view_is (most_of_all _ _ _ c.self.inside.before_to.items c.most.result c.self.invariant.before_to (subst (All (λ d. d ≤ c.most.result)) c.deref.ensures.value c.most.ensures.most))
