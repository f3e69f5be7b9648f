use Rattle.std.proofs.Common.{◌∙◌, sym, ap}
use Rattle.std.proofs.lemmas.Result.{IfOk-weaker}
use Rattle.tri_check.specs.Layouts.{Layout}
use Rattle.plan_core.specs.Trials.{all_flip}
use Rattle.plan_core.proofs.Held.{as_many}
use Rattle.plan_core.proofs.Trials.{all_follow, tried, tried_not}
use Rattle.plan_core.proofs.trial.would_lower.Goals as goal

pub returns-then-not-flip_in_turn : goal.returns-then-not-flip_in_turn
returns-then-not-flip_in_turn c =
    tried_not c.args.inst.now c.args.centre.now c.args.tracks.now c.requires c.args.edges.now
    (ap (λ (m : Layout). all_flip m.points m.edges c.args.edges.now) (sym c.in_ok-end.ensures) ∙ (sym c.flip_in_turn.ensures ∙ c.if-not-flip_in_turn.true))

pub least_of_all-requires : goal.least_of_all-requires
least_of_all-requires c =
    all_follow c.args.inst.now c.args.centre.now c.args.tracks.now c.requires c.args.edges.now c.points.ensures.triangulation
    (ap (λ (m : Layout). all_flip m.points m.edges c.args.edges.now) (sym c.in_ok-end.ensures) ∙ (sym c.flip_in_turn.ensures ∙ c.if-not-flip_in_turn.false))

pub sum_rounds-requires : goal.sum_rounds-requires
sum_rounds-requires c = as_many c.args.inst.now c.args.centre.now c.args.tracks.now c.requires

pub are_below-requires-clause-number : goal.are_below-requires-clause-number
are_below-requires-clause-number c = as_many c.args.inst.now c.args.centre.now c.args.tracks.now c.requires

pub are_below-requires-clause-follows : goal.are_below-requires-clause-follows
are_below-requires-clause-follows c =
    all_follow c.args.inst.now c.args.centre.now c.args.tracks.now c.requires c.args.edges.now c.points.ensures.triangulation
    (ap (λ (m : Layout). all_flip m.points m.edges c.args.edges.now) (sym c.in_ok-end.ensures) ∙ (sym c.flip_in_turn.ensures ∙ c.if-not-flip_in_turn.false))

pub returns : goal.returns
returns c =
    IfOk-weaker c.are_below.result _ _
    (λ b h. tried c.args.inst.now c.args.centre.now c.args.tracks.now c.requires c.args.edges.now c.sum_rounds.result b
    (ap (λ (m : Layout). all_flip m.points m.edges c.args.edges.now) (sym c.in_ok-end.ensures) ∙ (sym c.flip_in_turn.ensures ∙ c.if-not-flip_in_turn.false)) c.sum_rounds.ensures h)
    c.are_below.ensures
