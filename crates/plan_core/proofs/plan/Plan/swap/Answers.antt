use Rattle.std.proofs.Common.{◌≡◌, ◌-◌, ◌<◌, length, set, sym, subst}
use Rattle.flip_list_law.specs.FlipLists.{round_count}
use Rattle.plan_core.specs.HeldPlans.{list_at, least_spare}
use Rattle.plan_core.specs.States.{plan_of, IsHeld}
use Rattle.plan_core.specs.Steps.{IsTrackFor}
use Rattle.plan_core.specs.SwapFaults.{IsNotFewer, Saves}
use Rattle.plan_core.proofs.Swapping.{held_swapped, not_fewer, saves}
use Rattle.plan_core.proofs.plan.Plan.swap.Goals as goal

pub returns-then-held-given-clause-err : goal.returns-then-held-given-clause-err
returns-then-held-given-clause-err c =
    let h : c.args.t < length c.self.inside.inst.value.inputs = subst (λ v. c.args.t < length v.problem.inputs) (sym c.self.view_is) c.requires in
    let k = subst (λ v. IsTrackFor v.problem v.plan c.args.t c.args.rounds.now c.in_ok-track.track) (sym c.self.view_is) c.in_ok-track.ensures.ok in
    let held = subst (λ v. c.cost-held.result ≡ round_count (list_at v.plan c.args.t)) (sym c.self.view_is) c.cost-held.ensures in
    subst (λ v. IsNotFewer v.problem v.plan c.args.t c.args.rounds.now c.cost-held.result c.rounds-given.result) c.self.view_is
    (not_fewer c.self.inside.inst.value c.self.inside.centre c.self.inside.tracks c.self.invariant c.args.t c.args.rounds.now h k.leads c.in_ok-track.track k c.cost-held.result c.rounds-given.result held c.rounds-given.ensures c.if-held-given.true)

pub invariant_of-self : goal.invariant_of-self
invariant_of-self c =
    let h : c.args.t < length c.self.inside.inst.value.inputs = subst (λ v. c.args.t < length v.problem.inputs) (sym c.self.view_is) c.requires in
    let k = subst (λ v. IsTrackFor v.problem v.plan c.args.t c.args.rounds.now c.in_ok-track.track) (sym c.self.view_is) c.in_ok-track.ensures.ok in
    subst (IsHeld c.self.inside.inst.value c.self.inside.centre) (sym c.put.ensures)
    (held_swapped c.self.inside.inst.value c.self.inside.centre c.self.inside.tracks c.self.invariant c.args.t c.args.rounds.now h k.leads c.in_ok-track.track k)

pub returns-clause-ok : goal.returns-clause-ok
returns-clause-ok c =
    let h : c.args.t < length c.self.inside.inst.value.inputs = subst (λ v. c.args.t < length v.problem.inputs) (sym c.self.view_is) c.requires in
    let k = subst (λ v. IsTrackFor v.problem v.plan c.args.t c.args.rounds.now c.in_ok-track.track) (sym c.self.view_is) c.in_ok-track.ensures.ok in
    let held = subst (λ v. c.cost-held.result ≡ round_count (list_at v.plan c.args.t)) (sym c.self.view_is) c.cost-held.ensures in
    subst
    (λ v. Saves v (record { problem = c.self.inside.inst.value; plan = plan_of c.self.inside.inst.value c.self.inside.centre.edges c.put.new.tracks; spare = least_spare c.put.new.tracks }) c.args.t c.args.rounds.now (c.cost-held.result - c.rounds-given.result)) c.self.view_is
    (subst
    (λ ts. Saves (record { problem = c.self.inside.inst.value; plan = plan_of c.self.inside.inst.value c.self.inside.centre.edges c.self.inside.tracks; spare = least_spare c.self.inside.tracks }) (record { problem = c.self.inside.inst.value; plan = plan_of c.self.inside.inst.value c.self.inside.centre.edges ts; spare = least_spare ts }) c.args.t c.args.rounds.now (c.cost-held.result - c.rounds-given.result))
    (sym c.put.ensures)
    (saves c.self.inside.inst.value c.self.inside.centre c.self.inside.tracks c.self.invariant c.args.t c.args.rounds.now h k.leads c.in_ok-track.track k (least_spare c.self.inside.tracks) (least_spare (set c.self.inside.tracks c.args.t c.in_ok-track.track)) c.cost-held.result c.rounds-given.result held
    c.rounds-given.ensures c.if-held-given.false))
