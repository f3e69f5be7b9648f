-- The law of generated instances. It is the contract of a function of the crate, so it is proved.
use Rattle.std.specs.Prelude.{◌≡◌, ℕ}
use Rattle.tri_check.specs.declared.raw.RawInstance.{RawInstance}
use Rattle.gen_instance.specs.Generated.{IsGenerated}

-- a seed with numbers of points and of inputs names one instance
abbrev pub InstancesAreGeneratedOnce : Type 0
InstancesAreGeneratedOnce = (seed n m : ℕ) (raw other : RawInstance) → IsGenerated seed n m raw → IsGenerated seed n m other → raw ≡ other
