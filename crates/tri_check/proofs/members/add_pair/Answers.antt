use Rattle.tri_check.proofs.Pairs.{gathered_more}
use Rattle.tri_check.proofs.members.add_pair.Goals as goal

pub returns-in_ok-push-in-Some : goal.returns-in_ok-push-in-Some
returns-in_ok-push-in-Some c =
    gathered_more c.args.points.now c.args.pairs.now c.args.items.now.items c.push.new.self.items c.args.p c.in-Some.e c.requires.gathered c.in_ok-push-in-Some.ensures.items c.in-Some.ensures.ends
