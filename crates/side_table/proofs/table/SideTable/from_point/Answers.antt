use Rattle.std.proofs.Common.{◌≡◌, ℕ, List, MatchOption, Contains, subst}
use Rattle.side_table.specs.declared.side.Side.{Side}
use Rattle.side_table.specs.Sides.{HasSide}
use Rattle.side_table.proofs.Places.{from_slots}
use Rattle.side_table.proofs.table.SideTable.from_point.Goals as goal

pub returns : goal.returns
returns c =
    subst (λ (ss : List Side). MatchOption c.from_hint.result ((v : ℕ) → ¬ HasSide ss c.args.u v) (λ s. Contains ss s × (s.from ≡ c.args.u))) c.self.view_is
    (from_slots c.self.inside.slots.items c.args.u c.from_hint.result
    (subst (λ (ss : List Side). MatchOption c.from_hint.result ((v : ℕ) → ¬ HasSide ss c.args.u v) (λ s. Contains ss s × (s.from ≡ c.args.u))) c.deref.ensures.value c.from_hint.ensures))
