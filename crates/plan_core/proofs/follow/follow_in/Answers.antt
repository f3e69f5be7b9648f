use Rattle.std.proofs.Common.{◌<◌, sym, subst}
use Rattle.tri_theory.specs.Flips.{FlipsTo, Flips}
use Rattle.plan_core.proofs.Following.{appended, cancelled}
use Rattle.plan_core.proofs.follow.follow_in.Goals as goal

pub append-requires-clause-flips : goal.append-requires-clause-flips
append-requires-clause-flips c =
    let n = c.if-not-cancel.ensures c.requires.flips.0 c.requires.flips.1 in
    subst (λ t. Flips t.points t.end c.args.e) (sym n.unchanged) c.requires.flips

pub append-requires-clause-spare : goal.append-requires-clause-spare
append-requires-clause-spare c =
    let n = c.if-not-cancel.ensures c.requires.flips.0 c.requires.flips.1 in
    subst (λ t. 0 < t.spare) (sym n.unchanged) c.requires.spare

pub returns-then-not-cancel : goal.returns-then-not-cancel
returns-then-not-cancel c =
    let n = c.if-not-cancel.ensures c.requires.flips.0 c.requires.flips.1 in
    let h = subst (λ t. FlipsTo t.points t.end c.args.e c.append.result) n.unchanged c.append.ensures.end.flips in
    let m = c.if-not-cancel.ensures c.append.result h in
    appended c.args.track.now c.cancel.new.self c.append.new.self c.args.e c.append.result m.unchanged m.apart c.append.ensures

pub returns-else-not-cancel : goal.returns-else-not-cancel
returns-else-not-cancel c = cancelled c.args.track.now c.cancel.new.self c.args.e c.requires.flips.0 (c.if-not-cancel.ensures c.requires.flips.0 c.requires.flips.1)
