use Rattle.std.proofs.Common.{None, true≢false, refl, sym}
use Rattle.side_table.specs.Sides.{side}
use Rattle.flip_mesh.proofs.Places.{at_there, not_there}
use Rattle.flip_mesh.proofs.Built.{begins_from}
use Rattle.flip_mesh.proofs.search.has_way.Goals as goal

pub place_between-requires-clause-between : goal.place_between-requires-clause-between
place_between-requires-clause-between c = let (points, A, l) = c.requires.begins in begins_from _ _ _ _ _ A l

pub returns-in-Ok : goal.returns-in-Ok
returns-in-Ok c = (λ _. at_there c.args.items.now c.args.u c.args.v c.in-Ok.field-0 (side 0 0 None) c.in-Ok.ensures.found, λ _. refl)

pub returns-in-Err : goal.returns-in-Err
returns-in-Err c = (λ t. absurd (true≢false (sym t)), λ h. absurd (not_there c.args.items.now c.args.u c.args.v c.in-Err.field-0 c.in-Err.ensures.belongs h))
