use Rattle.std.proofs.Common.{refl}
use Rattle.round_pack.specs.Chains.{bucket}
use Rattle.round_pack.proofs.chain.bucket.Goals as goal

pub returns-clause-value : goal.returns-clause-value
unfolding bucket
returns-clause-value c = refl
