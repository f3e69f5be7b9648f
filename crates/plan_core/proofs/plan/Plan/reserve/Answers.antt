use Rattle.std.proofs.Common.{◌∙◌, ◌<◌, ◌≤◌, length, ap, subst, arith}
use Rattle.std.proofs.lemmas.Result.{on_ok_weaker}
use Rattle.plan_core.specs.HeldPlans.{HeldPlan, least_spare}
use Rattle.plan_core.specs.States.{IsHeld}
use Rattle.plan_core.proofs.Held.{as_many, held_with_room, roomier_lists, roomier_spares}
use Rattle.plan_core.proofs.Spares.{least_above, least_falls}
use Rattle.plan_core.proofs.plan.Plan.reserve.Goals as goal

pub invariant_of-self : goal.invariant_of-self
invariant_of-self c = held_with_room c.self.inside.inst.value c.self.inside.centre c.self.inside.tracks c.self.invariant c.reserve_all.new.tracks c.reserve_all.ensures.kept

pub returns-clause-plan : goal.returns-clause-plan
returns-clause-plan c =
    ap (λ ls. record { centre = c.self.inside.centre.edges; weights = c.self.inside.inst.value.weights; lists = ls }) (roomier_lists c.self.inside.tracks c.reserve_all.new.tracks c.reserve_all.ensures.kept) ∙ ap (λ (v : HeldPlan). v.plan) c.self.view_is

pub returns-clause-spare : goal.returns-clause-spare
returns-clause-spare c =
    let h = least_falls 0 c.self.inside.tracks c.reserve_all.new.tracks (roomier_spares c.self.inside.tracks c.reserve_all.new.tracks c.reserve_all.ensures.kept) in
    subst (λ v. v.spare ≤ least_spare c.reserve_all.new.tracks) c.self.view_is (omega (arith, h))

pub returns-clause-room : goal.returns-clause-room
returns-clause-room c =
    let H : IsHeld c.self.inside.inst.value c.self.inside.centre c.reserve_all.new.tracks = held_with_room c.self.inside.inst.value c.self.inside.centre c.self.inside.tracks c.self.invariant c.reserve_all.new.tracks c.reserve_all.ensures.kept in
    let n = as_many c.self.inside.inst.value c.self.inside.centre c.reserve_all.new.tracks H in
    let l : 0 < length c.reserve_all.new.tracks = omega (arith, n, H.is_problem.some_input) in
    on_ok_weaker c.reserve_all.result (λ h. least_above c.args.k c.reserve_all.new.tracks l h) c.reserve_all.ensures.room
