-- What the answers of walks and descents say.
use Rattle.std.specs.Prelude.{Option, Some, None, List}
use Rattle.edge_table.specs.declared.edge.Edge.{Edge}
use Rattle.plan_law.specs.Improvers as law
use Rattle.plan_moves.specs.declared.walking.Walk.{Walk}
use Rattle.plan_moves.specs.declared.walking.Walk.TheVariants as walk
use Rattle.plan_moves.specs.declared.descending.Descent.{Descent}
use Rattle.plan_moves.specs.declared.descending.Descent.TheVariants as descent

-- the edges of a better plan, or none
abbrev pub walk_answer : Walk → Option (List Edge)
walk_answer (walk.Better edges) = Some edges
walk_answer walk.NotBetter = None

-- the rounds of a better list, or why there is none
abbrev pub descent_answer : Descent → law.Descent
descent_answer (descent.Better rounds) = law.Better rounds
descent_answer (descent.NotBetter held given) = law.NotBetter held given
descent_answer (descent.Stuck round) = law.Stuck round
