use Rattle.std.proofs.Common.{sym, subst}
use Rattle.log_law.specs.Clauses.{IsVariable}
use Rattle.sat_search.specs.Choices.{Queue}
use Rattle.sat_search.proofs.Waiting.{queue_more}
use Rattle.sat_search.proofs.order.Order.put.Goals as goal

pub invariant_of-self-2 : goal.invariant_of-self-2
invariant_of-self-2 c = queue_more c.self.invariant c.in_ok-push.ensures.permutation (subst (λ (q : Queue). IsVariable q.variables c.args.var) (sym c.self.view_is) c.requires)
