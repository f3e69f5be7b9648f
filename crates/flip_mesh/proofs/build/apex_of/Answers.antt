use Rattle.std.proofs.Common.{arith}
use Rattle.flip_mesh.proofs.Built.{range}
use Rattle.flip_mesh.proofs.build.apex_of.Goals as goal

pub has_fewer-requires-clause-first : goal.has_fewer-requires-clause-first
has_fewer-requires-clause-first c = let r = range _ _ c.requires.triangulated _ _ c.requires.side in let l = c.requires.begins.long in omega arith

pub has_fewer-requires-clause-second : goal.has_fewer-requires-clause-second
has_fewer-requires-clause-second c = let r = range _ _ c.requires.triangulated _ _ c.requires.side in let l = c.requires.begins.long in omega arith
