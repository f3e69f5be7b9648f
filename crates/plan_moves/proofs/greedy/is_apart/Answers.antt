use Rattle.std.proofs.Common.{◌∙◌, inl, inr, not, refl, true≢false, sym, ap}
use Rattle.edge_table.specs.Edges.{edge}
use Rattle.plan_moves.proofs.GreedyRounds.{has_side, last_side}
use Rattle.plan_moves.proofs.greedy.is_apart.Goals as goal

pub returns-else-not-is_taken : goal.returns-else-not-is_taken
returns-else-not-is_taken c = has_side c.args.q c.args.taken.now (edge c.args.q.a c.args.q.b) (not c.is_taken.result) (ap not c.if-not-is_taken.false) (inl refl) (c.is_taken.ensures.0 c.if-not-is_taken.false)

pub returns-else-not-is_taken-2 : goal.returns-else-not-is_taken-2
returns-else-not-is_taken-2 c =
    has_side c.args.q c.args.taken.now (edge c.args.q.b c.args.q.c) (not c.is_taken-then-not-is_taken.result) (ap not c.if-not-is_taken-2.false) (inr (inl refl)) (c.is_taken-then-not-is_taken.ensures.0 c.if-not-is_taken-2.false)

pub returns-else-not-is_taken-3 : goal.returns-else-not-is_taken-3
returns-else-not-is_taken-3 c =
    has_side c.args.q c.args.taken.now (edge c.args.q.c c.args.q.d) (not c.is_taken-then-not-is_taken-2.result) (ap not c.if-not-is_taken-3.false) (inr (inr (inl refl))) (c.is_taken-then-not-is_taken-2.ensures.0 c.if-not-is_taken-3.false)

pub returns-then-not-is_taken-3 : goal.returns-then-not-is_taken-3
returns-then-not-is_taken-3 c =
    last_side c.args.q c.args.taken.now c.is_taken-then-not-is_taken-3.result (λ h. true≢false (sym (c.is_taken.ensures.1 h) ∙ c.if-not-is_taken.true)) (λ h. true≢false (sym (c.is_taken-then-not-is_taken.ensures.1 h) ∙ c.if-not-is_taken-2.true))
    (λ h. true≢false (sym (c.is_taken-then-not-is_taken-2.ensures.1 h) ∙ c.if-not-is_taken-3.true)) c.is_taken-then-not-is_taken-3.ensures
