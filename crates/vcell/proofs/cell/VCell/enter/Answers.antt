use Rattle.std.proofs.Common.{arith, ◌∷◌, Some, ap, ◌∙◌, sym}
use Rattle.atomic_table.specs.Table.{rest}
use Rattle.vcell.proofs.Kept.{draws}
use Rattle.vcell.proofs.cell.VCell.enter.Goals as goal

pub fetch_add-ticket-requires : goal.fetch_add-ticket-requires
fetch_add-ticket-requires g c = let p = c.pass.invariant in (
  ap (λ v. v.table) c.pass.view_is ∙ (c.requires.0 ∙ sym (ap (λ v. v.table) c.self.view_is)),
  (let w = c.self.invariant.0 in omega arith),
  draws g.V.Grows.entries g.V.Grows.ground _ _ _ _ (let one = p.0 in omega arith) p.1,
)

pub exchange-requires : goal.exchange-requires
exchange-requires g c = let t = c.wait_turn.ensures.turn in (
  c.wait_turn.ensures.own ∙ (c.fetch_add-ticket.ensures.0 ∙ (ap (λ v. v.table) c.pass.view_is ∙ (c.requires.0 ∙ sym (ap (λ v. v.table) c.self.view_is)))),
  (Some t.1, t.3 ∙ ap (λ cs. (0, Some t.1) ∷ rest cs) (sym t.3)),
)
