use Rattle.std.proofs.Common.{◌≡◌, length}
use Rattle.sat_search.specs.Choices.{AreTold}
use Rattle.sat_search.proofs.search.truth_of.Given as goal

abbrev pub invariant-loop-v : goal.invariant-loop-v
invariant-loop-v l = record {
  long : length l.truth ≡ l.v;
  told : AreTold l.state l.v l.truth;
}
