use Rattle.replay.proofs.Centres.{centre_plan, centre_distinct}
use Rattle.replay.proofs.scoring.score.Goals as goal

pub returns-clause-plan : goal.returns-clause-plan
returns-clause-plan c = centre_plan _ _ _ _ c.in_ok-centre.ensures.ok

pub returns-clause-distinct : goal.returns-clause-distinct
returns-clause-distinct c = centre_distinct c.args.inst.now.points c.args.inst.now.inputs c.args.lists.now c.in_ok-centre.centre.edges c.in_ok-centre.ensures.ok
