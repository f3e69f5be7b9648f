use Rattle.std.proofs.Common.{◌+◌, ◌*◌, length}
use Rattle.worker_crew.proofs.crew.+crew+fn-crew-join+arg3.Given as goal

abbrev pub decreases-crew : goal.decreases-crew
decreases-crew g l = 4 * length l.passes.items

abbrev pub decreases-join+arg3 : goal.decreases-join+arg3
decreases-join+arg3 g l = 4 * length l.passes.items + 1
