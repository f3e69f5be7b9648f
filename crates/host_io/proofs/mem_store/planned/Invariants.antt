use Rattle.std.proofs.Common.{◌≡◌, drop}
use Rattle.host_io.proofs.Entries.{latest}
use Rattle.host_io.proofs.mem_store.planned.Given as goal

-- no plan so far is for the call
abbrev pub invariant-loop-plan : goal.invariant-loop-plan
invariant-loop-plan l = latest (drop l.plan-index l.plans) l.call ≡ latest l.plans l.call
