use Rattle.planar_law.proofs.Proved.{patches_are_triangulations, chains_are_hulls}
use Rattle.planar_law.proofs.laws.Goals as goal

pub returns : goal.returns
returns _ = record { patches_are_triangulations = patches_are_triangulations; chains_are_hulls = chains_are_hulls }
