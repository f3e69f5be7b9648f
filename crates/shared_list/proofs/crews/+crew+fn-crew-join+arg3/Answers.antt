use Rattle.std.proofs.Common.{rules, arith, ◌≡◌, ℕ, ◌+◌, List, [], length, All, subst, sym, ap, length-append}
use Rattle.std.proofs.lemmas.List.Elements.{All-push}
use Rattle.std.proofs.lemmas.Bool.{OnTrue_at, OnTrue_from}
use Rattle.vcell.specs.Passes.{IsPassOf, PassView}
use Rattle.claims.specs.Draws.{IsSeatOf, SeatView}
use Rattle.shared_list.specs.Turns.{HasTurns}
use Rattle.shared_list.proofs.Gathered.{gathered}
use Rattle.seat_list.proofs.Ends.{all_front, all_last}
use Rattle.shared_list.proofs.crews.+crew+fn-crew-join+arg3.Goals as goal

pub join-pass-requires-after_bounds : goal.join-pass-requires-after_bounds
join-pass-requires-after_bounds g t c κs within = let e = c.in-Some.ensures.some in let f = c.in-Some-pop.ensures.some in
    let P : PassView ℕ ℕ → Type 0 = λ p. IsPassOf c.args.cell.now p × (p.made ≡ 0) in let Q : SeatView → Type 0 = λ s. IsSeatOf c.args.claims.now s × (s.numbers ≡ []) in
    let p = subst (All P) e c.requires.passes in let q = subst (All Q) f c.requires.seats in let p₁ = all_last P _ _ p in let q₁ = all_last Q _ _ q in
    let n : length c.args.passes.items ≡ length c.pop.new.self.items + 1 = omega (arith, ap (length {A = PassView ℕ ℕ}) e, length-append {A = PassView ℕ ℕ}) in
    let m : length c.args.seats.items ≡ length c.pop-2.new.self.items + 1 = omega (arith, ap (length {A = SeatView}) f, length-append {A = SeatView}) in
    let same = c.requires.count in
    ((p₁.0, q₁.0, p₁.1, q₁.1), (search rules, ((λ a h. h), ((search rules, omega arith, all_front P _ _ p, all_front Q _ _ q), search rules))))

pub returns-clause-passes : goal.returns-clause-passes
returns-clause-passes g t c = let P : PassView ℕ ℕ → Type 0 = IsPassOf c.args.cell.now in let j = c.join-pass.ensures in let r = c.join-pass.result in
    subst (All P) (sym c.push_spared.ensures.items) (All-push P r.1.0.items r.0.0 j.second.4 j.first.0)

pub returns-clause-seats : goal.returns-clause-seats
returns-clause-seats g t c = let Q : SeatView → Type 0 = IsSeatOf c.args.claims.now in let j = c.join-pass.ensures in let r = c.join-pass.result in
    subst (All Q) (sym c.push_spared-2.ensures.items) (All-push Q r.1.1.items r.0.1 j.second.5 j.first.1)

pub returns-clause-added : goal.returns-clause-added
returns-clause-added g t c = let j = c.join-pass.ensures in let r = c.join-pass.result in let turns = c.args.claims.now.turns in let p = c.push_spared.ensures.items in let q = c.push_spared-2.ensures.items in
    OnTrue_from _ _ (λ all. let both = OnTrue_at all c.all_of.ensures in
    subst (λ (z : List SeatView × List (PassView ℕ ℕ)). HasTurns turns z.0 z.1) (λ i. (sym q i, sym p i))
    (gathered turns r.1.1.items r.1.0.items r.0.1 r.0.0 (OnTrue_at both.1 j.second.8) (OnTrue_at both.0 j.first.4)))
