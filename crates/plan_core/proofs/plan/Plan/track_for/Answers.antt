use Rattle.std.proofs.Common.{◌≡◌, ◌<◌, Some, List, length, sym, subst}
use Rattle.std.proofs.lemmas.Result.{err_from_is_err_and}
use Rattle.flip_list_law.specs.declared.Flip.{Flip}
use Rattle.flip_list_law.specs.FlipLists.{in_turn}
use Rattle.replay.specs.Independent.{AreRoundsOf}
use Rattle.plan_law.specs.Images.{flips_in_turn}
use Rattle.plan_core.specs.States.{plan_of}
use Rattle.plan_core.specs.Steps.{IsTrackOf, IsTrackFor}
use Rattle.plan_core.specs.SwapFaults.{IsSwapFault, IsLeadFault}
use Rattle.plan_core.proofs.Swapping.{lead_fault, moved, moved_back, rounds_found, track_for}
use Rattle.plan_core.proofs.plan.Plan.track_for.Goals as goal

pub returns-in_err-lead_to-clause-err : goal.returns-in_err-lead_to-clause-err
returns-in_err-lead_to-clause-err c =
    let p = err_from_is_err_and c.from_residual.result c.from_residual.ensures.1 in
    let h = moved c.self.inside.inst.value c.deref.result.now c.input-input.result.now c.args.t c.deref.ensures c.input-input.ensures.points c.input-input.ensures.edges
    (λ ps es. IsLeadFault ps es c.args.rounds.now c.self.inside.centre.edges c.in_err-lead_to.field-0.0) c.in_err-lead_to.ensures.err in
    rw (p.1, p.2)
    (subst (λ v. IsSwapFault v.problem v.plan c.args.t c.args.rounds.now c.in_err-lead_to.field-0.0) c.self.view_is
    (lead_fault c.self.inside.inst.value (plan_of c.self.inside.inst.value c.self.inside.centre.edges c.self.inside.tracks) c.args.t c.args.rounds.now c.in_err-lead_to.field-0.0 h))

pub track_of-requires : goal.track_of-requires
track_of-requires c =
    let h : c.args.t < length c.self.inside.inst.value.inputs = subst (λ v. c.args.t < length v.problem.inputs) (sym c.self.view_is) c.requires in
    let r = moved c.self.inside.inst.value c.deref.result.now c.input-input.result.now c.args.t c.deref.ensures c.input-input.ensures.points c.input-input.ensures.edges
    (λ ps es. AreRoundsOf ps es c.args.rounds.now c.self.inside.centre.edges) c.in_ok-lead_to.ensures.ok in
    moved_back c.self.inside.inst.value c.deref.result.now c.input-input.result.now c.args.t c.deref.ensures c.input-input.ensures.points c.input-input.ensures.edges
    (λ ps es. (flips : List Flip) × (flips_in_turn ps es (in_turn c.args.rounds.now) ≡ Some flips))
    (rounds_found c.self.inside.inst.value c.self.inside.centre c.self.inside.tracks c.self.invariant c.args.t c.args.rounds.now h r)

pub returns-clause-ok : goal.returns-clause-ok
returns-clause-ok c =
    let h : c.args.t < length c.self.inside.inst.value.inputs = subst (λ v. c.args.t < length v.problem.inputs) (sym c.self.view_is) c.requires in
    let r = moved c.self.inside.inst.value c.deref.result.now c.input-input.result.now c.args.t c.deref.ensures c.input-input.ensures.points c.input-input.ensures.edges
    (λ ps es. AreRoundsOf ps es c.args.rounds.now c.self.inside.centre.edges) c.in_ok-lead_to.ensures.ok in
    let k = moved c.self.inside.inst.value c.deref.result.now c.input-input.result.now c.args.t c.deref.ensures c.input-input.ensures.points c.input-input.ensures.edges
    (λ ps es. IsTrackOf ps es (in_turn c.args.rounds.now) c.in_ok-track_of.field-0) c.in_ok-track_of.ensures in
    subst (λ v. IsTrackFor v.problem v.plan c.args.t c.args.rounds.now c.in_ok-track_of.field-0) c.self.view_is
    (track_for c.self.inside.inst.value c.self.inside.centre c.self.inside.tracks c.self.invariant c.args.t c.args.rounds.now h r c.in_ok-track_of.field-0 k)
