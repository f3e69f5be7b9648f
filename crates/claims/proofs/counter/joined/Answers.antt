use Rattle.std.proofs.Common.{arith, ◌≡◌, ℕ, List, [], ◌∷◌, length, All, length-append, subst, ap, ◌∙◌}
use Rattle.std.specs.Prelude.{sum_by}
use Rattle.std.proofs.lemmas.List.Sums.{sum_by_push}
use Rattle.claims.specs.Draws.{SeatView, times, late}
use Rattle.claims.proofs.Numbers.{times-append, late-append}
use Rattle.claims.proofs.Kept.{joins}
use Rattle.seat_list.proofs.Ends.{all_front, all_last}
use Rattle.claims.proofs.counter.joined.Goals as goal

abbrev times_in : ℕ → SeatView → ℕ
times_in x s = times x s.numbers

abbrev count_in : SeatView → ℕ
count_in s = length s.numbers

abbrev late_in : ℕ → SeatView → ℕ
late_in n s = late n s.numbers

pub loop-other-init : goal.loop-other-init
loop-other-init c = let e = c.in-Some.ensures.some in let P : SeatView → Type 0 = λ s. s.table ≡ c.args.shared.now.table_id in let own = subst (All P) e c.requires.own in
    let rest : List SeatView = c.pop.new.self.items in let x = c.in-Some.first in (
      ap (λ (v : SeatView). v.table) c.first.view_is ∙ all_last P rest x own,
      c.first.invariant.1,
      all_front P rest x own,
      (let p = c.first.invariant.0 in let n = ap length e in omega (arith, length-append rest (x ∷ []))),
      (let t = sum_by_push count_in rest x in let s = ap (sum_by count_in) e in let v = ap count_in c.first.view_is in omega arith),
      (λ n. let t = sum_by_push (late_in n) rest x in let s = ap (sum_by (late_in n)) e in let v = ap (late_in n) c.first.view_is in omega arith),
      λ n. let t = sum_by_push (times_in n) rest x in let s = ap (sum_by (times_in n)) e in let v = ap (times_in n) c.first.view_is in omega arith,
    )

pub join_seat-requires : goal.join_seat-requires
join_seat-requires c = let e = c.in-Some-pop.ensures.some in let P : SeatView → Type 0 = λ s. s.table ≡ c.args.shared.now.table_id in let own = subst (All P) e c.loop-other.invariant.2 in (
  c.loop-other.invariant.0,
  ap (λ (v : SeatView). v.table) c.other.view_is ∙ all_last P _ _ own,
  c.other.invariant.1,
  c.requires.table,
  joins _ _ _ _ _,
)

pub loop-other-preserved : goal.loop-other-preserved
loop-other-preserved c = let e = c.in-Some-pop.ensures.some in let P : SeatView → Type 0 = λ s. s.table ≡ c.args.shared.now.table_id in let own = subst (All P) e c.loop-other.invariant.2 in
    let rest : List SeatView = c.pop-in-loop-other.new.self.items in let x = c.in-Some-pop.other in let kept = c.loop-other.kept.me.0.numbers in let more = c.other.inside.seat.me.0.numbers in
    let j = c.join_seat.ensures in let was = c.loop-other.invariant in let b = ap (λ m. m.0.seats) j.2 in (
      j.0 ∙ was.0,
      ap (λ m. m.1) j.2 ∙ was.1,
      all_front P rest x own,
      (let p = c.other.invariant.0 in let q = was.3 in let n = ap length e in omega (arith, length-append rest (x ∷ []))),
      (let t = sum_by_push count_in rest x in let s = ap (sum_by count_in) e in let v = ap count_in c.other.view_is in let q = was.4 in
          let a = ap (λ m. length m.0.numbers) j.2 in omega (arith, length-append kept more)),
      (λ n. let t = sum_by_push (late_in n) rest x in let s = ap (sum_by (late_in n)) e in let v = ap (late_in n) c.other.view_is in let q = was.5 n in
          let a = ap (λ m. late n m.0.numbers) j.2 ∙ late-append n kept more in omega arith),
      λ n. let t = sum_by_push (times_in n) rest x in let s = ap (sum_by (times_in n)) e in let v = ap (times_in n) c.other.view_is in let q = was.6 n in
          let a = ap (λ m. times n m.0.numbers) j.2 ∙ times-append n kept more in omega arith,
    )
