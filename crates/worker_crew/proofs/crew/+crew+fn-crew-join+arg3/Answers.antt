use Rattle.std.proofs.Common.{rules, arith, ◌≡◌, ◌+◌, List, [], length, All, subst, sym, ap, length-append}
use Rattle.std.proofs.Crossing.{crosses}
use Rattle.std.proofs.lemmas.List.Elements.{All-push}
use Rattle.vcell.specs.Passes.{IsPassOf, PassView}
use Rattle.claims.specs.Draws.{IsSeatOf, SeatView}
use Rattle.plan_core.specs.HeldPlans.{HeldPlan}
use Rattle.book_core.specs.declared.entry.Entry.{Entry}
use Rattle.seat_list.proofs.Ends.{all_front, all_last}
use Rattle.worker_crew.specs.declared.taken.Taken.{Taken}
use Rattle.worker_crew.specs.Workers.{HaveTaken}
use Rattle.worker_crew.proofs.Working.{have_taken_more}
use Rattle.worker_crew.proofs.Crossing.{nine_send, sync, cell_sync, pass_send, claims_sync, seat_send, frame_sync, limits_sync}
use denote.Param.{param}
use denote.Exit as exit
use denote.Param.Send.{IsSync, sendable, param_send, arg_send, shr_send}
use Rattle.worker_crew.proofs.crew.+crew+fn-crew-join+arg3.Goals as goal

pub join-pass-requires-send-F : goal.join-pass-requires-send-F
join-pass-requires-send-F g t c κs within = let r : IsSync (param 0 g.row.R) = search rules in let s : IsSync (param 1 g.row.G) = search rules in
    param_send 1 _ (arg_send _ exit.no _ (nine_send _ _ _ _ _ _ _ _ _ _ (shr_send _ _ _ r) (shr_send _ _ _ sync) (shr_send _ _ _ cell_sync) (shr_send _ _ _ claims_sync) (shr_send _ _ _ frame_sync) (shr_send _ _ _ limits_sync) (shr_send _ _ _ s) pass_send seat_send))

pub join-pass-requires-send-A : goal.join-pass-requires-send-A
join-pass-requires-send-A g t c κs within = search (sendable, pass_send, seat_send, crosses) depth 60 fits 100000

pub join-pass-requires-after_bounds : goal.join-pass-requires-after_bounds
join-pass-requires-after_bounds g t c κs within = let e = c.in-Some.ensures.some in let f = c.in-Some-pop.ensures.some in let r = c.requires in
    let P : PassView Entry HeldPlan → Type 0 = λ p. IsPassOf c.args.cell.now p × (p.made ≡ 0) in let Q : SeatView → Type 0 = λ s. IsSeatOf c.args.claims.now s × (s.numbers ≡ []) in
    let p = subst (All P) e r.passes in let q = subst (All Q) f r.seats in let p₁ = all_last P _ _ p in let q₁ = all_last Q _ _ q in
    let n : length c.args.passes.items ≡ length c.pop.new.self.items + 1 = omega (arith, ap (length {A = PassView Entry HeldPlan}) e, length-append {A = PassView Entry HeldPlan}) in
    let m : length c.args.seats.items ≡ length c.pop-2.new.self.items + 1 = omega (arith, ap (length {A = SeatView}) f, length-append {A = SeatView}) in
    let same = r.count in let room = r.parts.1 in
    ((p₁.0, q₁.0, p₁.1, q₁.1, r.frame, r.limits, r.turns), (search rules, ((λ a h. h), ((λ a h. h), ((search rules, omega (arith, n, m, same), all_front P _ _ p, all_front Q _ _ q, r.parts.0, omega (arith, n, room), r.frame, r.limits, r.turns), (search rules, search rules))))))

pub returns-clause-passes : goal.returns-clause-passes
returns-clause-passes g t c = let P : PassView Entry HeldPlan → Type 0 = IsPassOf c.args.cell.now in let j = c.join-pass.ensures in let r = c.join-pass.result in
    subst (All P) (sym c.push_spared.ensures.items) (All-push P r.1.0.items r.0.0 j.second.5 j.first.0)

pub returns-clause-seats : goal.returns-clause-seats
returns-clause-seats g t c = let Q : SeatView → Type 0 = IsSeatOf c.args.claims.now in let j = c.join-pass.ensures in let r = c.join-pass.result in
    subst (All Q) (sym c.push_spared-2.ensures.items) (All-push Q r.1.1.items r.0.1 j.second.6 j.first.1)

pub returns-clause-taken : goal.returns-clause-taken
returns-clause-taken g t c = let j = c.join-pass.ensures in let r = c.join-pass.result in let p = c.push_spared.ensures.items in let q = c.push_spared-2.ensures.items in let s = c.push_spared-3.ensures.items in
    subst (λ (z : List SeatView × List (PassView Entry HeldPlan) × List (List Taken)). HaveTaken c.args.limits.now c.args.frame.now c.args.cell.now.ground z.0 z.1 z.2) (λ i. (sym q i, sym p i, sym s i))
    (have_taken_more c.args.limits.now c.args.frame.now c.args.cell.now.ground r.1.1.items r.1.0.items r.1.2.items r.0.1 r.0.0 r.0.2 j.second.7 j.first.2)
