use Rattle.std.proofs.Common.{◌≡◌, length, map, All, ap, sym, ◌∙◌, subst}
use Rattle.edge_table.specs.declared.edge.Edge.{Edge}
use Rattle.tri_theory.specs.Flips.{FlipsTo, Flips}
use Rattle.tri_theory.specs.Rounds.{weighted_sum}
use Rattle.tri_check.specs.Problems.{Problem}
use Rattle.flip_list_law.specs.FlipLists.{round_count, follow}
use Rattle.round_pack.specs.Tracks.{FlipTrack, flip}
use Rattle.plan_core.specs.HeldPlans.{TotalsAfter, lists_of}
use Rattle.plan_core.proofs.Held.{as_many, all_flip, totals_after}
use Rattle.plan_core.proofs.plan.Plan.total_after.Goals as goal

pub sum_rounds_after-requires-clause-number : goal.sum_rounds_after-requires-clause-number
sum_rounds_after-requires-clause-number c = as_many c.self.inside.inst.value c.self.inside.centre c.self.inside.tracks c.self.invariant ∙ sym (ap (λ (p : Problem). length p.inputs) c.deref.ensures)

pub sum_rounds_after-requires-clause-flips : goal.sum_rounds_after-requires-clause-flips
sum_rounds_after-requires-clause-flips c =
    all_flip c.self.inside.inst.value.points c.self.inside.centre.edges c.args.e (subst (λ v. Flips v.problem.points v.plan.centre c.args.e) (sym c.self.view_is) c.requires) c.self.inside.inst.value.inputs c.self.inside.tracks
    c.self.invariant.lead

pub returns : goal.returns
returns c =
    let sums = subst
    (λ (p : Problem). (f : Edge) → All (λ (track : FlipTrack). FlipsTo track.points track.end c.args.e f) c.self.inside.tracks
    → c.sum_rounds_after.result ≡ weighted_sum p.weights (map round_count (map (λ flips. follow flips (flip c.args.e f)) (lists_of c.self.inside.tracks)))) c.deref.ensures c.sum_rounds_after.ensures in
    subst (λ v. TotalsAfter v.problem.points v.plan c.args.e c.sum_rounds_after.result) c.self.view_is
    (totals_after c.self.inside.inst.value c.self.inside.centre c.self.inside.tracks c.self.invariant c.args.e c.sum_rounds_after.result (subst (λ v. Flips v.problem.points v.plan.centre c.args.e) (sym c.self.view_is) c.requires) sums)
