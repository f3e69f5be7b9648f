use Rattle.std.proofs.Common.{◌∙◌, ap}
use Rattle.pruned_cnf.specs.Queries.{Query}
use Rattle.pruned_cnf.proofs.query.Query.to.Goals as goal

pub returns-clause-points : goal.returns-clause-points
returns-clause-points c = c.self.invariant.same ∙ ap (λ (q : Query). q.points) c.self.view_is
