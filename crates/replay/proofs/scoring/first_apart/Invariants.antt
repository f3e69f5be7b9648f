use Rattle.replay.specs.Scores.{AllLead}
use Rattle.replay.specs.Ends.{IsApart}
use Rattle.replay.proofs.scoring.first_apart.Given as goal

-- all lists so far lead somewhere, and the first whose end isn't the centre is known
abbrev pub invariant-loop-t : goal.invariant-loop-t
invariant-loop-t l = record {
  lead : AllLead l.inst.points l.inst.inputs l.lists l.t;
  apart : IsApart l.inst.points l.inst.inputs l.lists l.t l.centre.edges l.apart;
}
