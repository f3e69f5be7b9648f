use Rattle.std.proofs.Common.{ap, ◌∙◌}
use Rattle.vcell.proofs.Kept.{polls}
use Rattle.vcell.proofs.cell.wait_turn.Goals as goal

pub load-serving-requires : goal.load-serving-requires
load-serving-requires g c = let was = c.loop.invariant in (
  was.0 ∙ c.requires.own.0,
  c.requires.own.1,
  polls g.V.Grows.entries g.V.Grows.ground _ _ _ _ c.requires.turn.0 (ap (λ m. m.0.stage) was.1 ∙ c.requires.turn.1),
)
