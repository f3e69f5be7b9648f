use Rattle.std.proofs.Common.{◌≡◌, length}
use Rattle.match_bound.specs.Matchings.{IsStage}
use Rattle.match_bound.specs.Tables.{weight}
use Rattle.match_bound.proofs.best.match_all.Given as goal

abbrev pub invariant-loop-target : goal.invariant-loop-target
invariant-loop-target l = record {
  stage : IsStage (weight l.w) (length l.w) l.target l.image l.u l.v;
  labels_long : length l.labels.items ≡ length l.w;
  reach_long : length l.reach.items ≡ length l.w;
}
