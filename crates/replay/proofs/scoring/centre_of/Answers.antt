use Rattle.std.proofs.Common.{length, subst}
use Rattle.replay.specs.Ends.{IsApart}
use Rattle.replay.proofs.Centres.{all_to_centre}
use Rattle.replay.proofs.scoring.centre_of.Goals as goal

pub returns-in-None : goal.returns-in-None
returns-in-None c = record {
  points = c.in_ok-centre.ensures.points;
  ok = all_to_centre _ _ _ _ c.requires (subst (IsApart c.args.inst.now.points c.args.inst.now.inputs c.args.lists.now (length c.args.inst.now.inputs) c.in_ok-centre.centre.edges) c.in-None.is c.in_ok-t.ensures.apart);
  err = tt;
}
