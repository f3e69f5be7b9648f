use Rattle.std.proofs.Common.{◌≡◌, suc, ◌<◌, ◌≤◌, Some, sym, subst, arith}
use Rattle.tri_theory.specs.Flips.{Flips}
use Rattle.plan_law.specs.Plans.{followed}
use Rattle.plan_core.specs.HeldPlans.{least_spare}
use Rattle.plan_core.specs.States.{plan_of}
use Rattle.plan_core.proofs.Held.{all_flip, followed_spares, follows, held_on}
use Rattle.plan_core.proofs.Spares.{least_below, least_falls}
use Rattle.plan_core.proofs.plan.Plan.follow.Goals as goal

pub follow_all-requires-clause-flips : goal.follow_all-requires-clause-flips
follow_all-requires-clause-flips c =
    all_flip c.self.inside.inst.value.points c.self.inside.centre.edges c.args.e (subst (λ v. Flips v.problem.points v.plan.centre c.args.e) (sym c.self.view_is) c.requires.flips) c.self.inside.inst.value.inputs c.self.inside.tracks
    c.self.invariant.lead

pub follow_all-requires-clause-spare : goal.follow_all-requires-clause-spare
follow_all-requires-clause-spare c = λ k d l.
    let some : 0 < least_spare c.self.inside.tracks = subst (λ v. 0 < v.spare) (sym c.self.view_is) c.requires.spare in
    let h = least_below 1 c.self.inside.tracks (omega (arith, some)) k d l in
    omega (arith, h)

pub invariant_of-self : goal.invariant_of-self
invariant_of-self c =
    held_on c.self.inside.inst.value c.self.inside.centre c.self.inside.tracks c.self.invariant c.flip.new.self c.follow_all.new.tracks c.args.e c.flip.result c.flip.ensures.points c.flip.ensures.edges c.follow_all.ensures

pub returns-clause-plan : goal.returns-clause-plan
returns-clause-plan c =
    subst (λ v. followed v.problem.points v.plan c.args.e ≡ Some (plan_of c.self.inside.inst.value c.flip.new.self.edges c.follow_all.new.tracks)) c.self.view_is
    (follows c.self.inside.inst.value c.self.inside.centre c.self.inside.tracks c.self.invariant c.flip.new.self c.follow_all.new.tracks c.args.e c.flip.result c.flip.ensures.points c.flip.ensures.edges c.follow_all.ensures)

pub returns-clause-spare : goal.returns-clause-spare
returns-clause-spare c =
    let h = least_falls 1 c.self.inside.tracks c.follow_all.new.tracks (followed_spares c.args.e c.self.inside.tracks c.follow_all.new.tracks c.follow_all.ensures) in
    subst (λ v. v.spare ≤ suc (least_spare c.follow_all.new.tracks)) c.self.view_is (omega (arith, h))
