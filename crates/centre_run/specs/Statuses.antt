-- How a run ends, as numbers.
use Rattle.std.specs.Prelude.{ℕ}
use Rattle.centre_run.specs.declared.status.Status.{Status}
use Rattle.centre_run.specs.declared.status.Status.TheVariants.{Done, Words, Refused, FlipBudget, Memory, ReadFault, WriteFault, No}

abbrev pub number_of : Status → ℕ
number_of Done = 0
number_of Words = 1
number_of Refused = 2
number_of FlipBudget = 3
number_of Memory = 4
number_of ReadFault = 5
number_of WriteFault = 6
number_of No = 7
