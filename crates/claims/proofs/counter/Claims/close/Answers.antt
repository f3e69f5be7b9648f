use Rattle.std.proofs.Common.{arith, ◌≡◌, ℕ, List, get_or, sym, ap, ◌∙◌}
use Rattle.claims.specs.Draws.{CounterView, once_below, late_draws}
use Rattle.claims.proofs.Numbers.{at_zero}
use Rattle.claims.proofs.Kept.{last_once, last_count, last_late}
use Rattle.claims.proofs.counter.Claims.close.Goals as goal

pub free-requires : goal.free-requires
free-requires c = λ k lt. let n = c.close_with-closed.ensures.counts.1 in let z = c.self.invariant.1 in absurd (omega arith)

pub returns-clause-once : goal.returns-clause-once
returns-clause-once c = λ x. let last = c.close_with-closed.ensures.values.2 in let j = c.joined-seat.ensures in
    let all = j.seats ∙ (c.requires.all ∙ sym (ap (λ (v : CounterView). v.seats) c.self.view_is)) in
    let word = ap (λ (ws : List ℕ). get_or ws 0 0) last.2 ∙ at_zero _ _ c.word-word.ensures in
    sym (j.times x) ∙ (last_once _ last.0 _ _ last.1.0 last.1.1 all x ∙ ap (λ (n : ℕ). once_below n x) word)

pub returns-clause-count : goal.returns-clause-count
returns-clause-count c = let last = c.close_with-closed.ensures.values.2 in let j = c.joined-seat.ensures in
    let all = j.seats ∙ (c.requires.all ∙ sym (ap (λ (v : CounterView). v.seats) c.self.view_is)) in
    let word = ap (λ (ws : List ℕ). get_or ws 0 0) last.2 ∙ at_zero _ _ c.word-word.ensures in
    sym j.count ∙ (last_count _ last.0 _ _ last.1.0 last.1.1 all ∙ word)

pub returns-clause-late : goal.returns-clause-late
returns-clause-late c = let last = c.close_with-closed.ensures.values.2 in let j = c.joined-seat.ensures in
    let all = j.seats ∙ (c.requires.all ∙ sym (ap (λ (v : CounterView). v.seats) c.self.view_is)) in
    let word = ap (λ (ws : List ℕ). get_or ws 0 0) last.2 ∙ at_zero _ _ c.word-word.ensures in
    let turns : c.self.inside.table.shared.key.turns ≡ c.args.self.turns = ap (λ (v : CounterView). v.turns) c.self.view_is in
    let late = last_late _ last.0 _ _ last.1.0 last.1.1 all in let over = j.late c.self.inside.table.shared.key.turns in
    let same = ap (λ (t : ℕ). late_draws t c.args.seats.items) turns in omega arith
