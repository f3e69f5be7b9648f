use Rattle.gen_instance.proofs.Once.{instances_are_generated_once}
use Rattle.gen_instance.proofs.laws.Goals as goal

pub returns : goal.returns
returns _ = record { instances_are_generated_once = instances_are_generated_once }
