use Rattle.std.proofs.Common.{refl}
use Rattle.side_table.specs.Slots.{bucket}
use Rattle.side_table.proofs.slots.bucket.Goals as goal

pub returns-clause-value : goal.returns-clause-value
unfolding bucket
returns-clause-value c = refl
