use Rattle.solution_json.proofs.Once.{spelled_once}
use Rattle.solution_json.proofs.read.laws.Goals as goal

pub returns : goal.returns
returns c = λ bytes r s a b. spelled_once bytes r s a b
