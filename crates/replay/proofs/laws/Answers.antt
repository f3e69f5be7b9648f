use Rattle.replay.proofs.ScoreLaws.{ends_are_unique, schedules_have_no_fault, first_faults_are_unique, plans_have_no_fault, score_faults_are_unique}
use Rattle.replay.proofs.laws.Goals as goal

pub returns : goal.returns
returns c = record {
  ends_are_unique = ends_are_unique;
  schedules_have_no_fault = schedules_have_no_fault;
  first_faults_are_unique = first_faults_are_unique;
  plans_have_no_fault = plans_have_no_fault;
  score_faults_are_unique = score_faults_are_unique;
}
