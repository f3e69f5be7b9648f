use Rattle.std.proofs.Common.{◌∙◌, ◌<◌, ◌≤◌, [], ◌∷◌, ◌++◌, map, length, take, sym, ap, arith}
use Rattle.std.proofs.lemmas.List.{take_all, map_more}
use Rattle.std.proofs.lemmas.Slice.Zip.{AllZip-long}
use Rattle.tri_check.specs.Problems.{Problem}
use Rattle.flip_list_law.specs.FlipLists.{grouped}
use Rattle.book_cert.proofs.solution.lists_of.Goals as goal

pub loop-t-preserved : goal.loop-t-preserved
loop-t-preserved c =
    let held = c.args.plan.now in
    let long = AllZip-long _ held.problem.inputs held.plan.lists c.total.ensures.plan.lead in
    let count = c.inputs-count.ensures ∙ ap (λ (p : Problem). length p.inputs) (c.deref.ensures ∙ c.inst.ensures) in
    let lt : c.loop-t.t < length held.plan.lists = omega (arith, c.loop-t-test.true, count, long) in
    c.in_ok-push.ensures.ok ∙ (ap (λ lists. lists ++ c.in_ok-schedule.field-0 ∷ []) c.loop-t.invariant
    ∙ (ap (λ new. map grouped (take c.loop-t.t held.plan.lists) ++ new ∷ []) c.in_ok-schedule.ensures.rounds ∙ sym (map_more grouped held.plan.lists c.loop-t.t [] lt)))

pub returns : goal.returns
returns c =
    let held = c.args.plan.now in
    let long = AllZip-long _ held.problem.inputs held.plan.lists c.total.ensures.plan.lead in
    let count = c.inputs-count.ensures ∙ ap (λ (p : Problem). length p.inputs) (c.deref.ensures ∙ c.inst.ensures) in
    let le : length held.plan.lists ≤ c.loop-t.t = omega (arith, c.loop-t-test.false, count, long) in
    c.loop-t.invariant ∙ ap (map grouped) (take_all _ held.plan.lists le)
