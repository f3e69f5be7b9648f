use Rattle.std.proofs.Common.{arith, ◌≡◌, ℕ, ◌+◌, [], ◌∷◌, length, All, subst, sym, ap, ◌∙◌, length-append}
use Rattle.std.specs.Prelude.{Contains}
use Rattle.std.proofs.lemmas.Bool.{OnTrue_at, OnTrue_from}
use Rattle.std.proofs.lemmas.List.Elements.{All-push}
use Rattle.claims.specs.Draws.{times, late}
use Rattle.claims.proofs.Numbers.{times-append, late-append, late-none}
use Rattle.shared_list.specs.Turns.{HasTurnsOf}
use Rattle.shared_list.proofs.Counted.{all_times, times_late, late_one}
use Rattle.shared_list.proofs.Gathered.{kept_in}
use Rattle.shared_list.proofs.crews.worker.Goals as goal

pub returns-in_default-clause-late : goal.returns-in_default-clause-late
returns-in_default-clause-late g c = let d = c.in_default.ensures.drawn in let t = c.args.claims.now.turns in let before = late-none t c.loop.seat.numbers c.loop.invariant.2 in
    let here = late_one t d.0 (let no = d.2 in omega arith) in let e = ap (late t) d.1 ∙ late-append t c.loop.seat.numbers (d.0 ∷ []) in omega arith

pub returns-in_default-clause-added : goal.returns-in_default-clause-added
returns-in_default-clause-added g c = let d = c.in_default.ensures.drawn in let olds = c.loop.seat.numbers in let seen = c.loop.pass.seen in
    let T = c.args.claims.now.turns in OnTrue_from c.loop.whole (HasTurnsOf T c.draw.new.seat.numbers seen) (λ whole x lt some. all_times (Contains seen) olds x (OnTrue_at whole c.loop.invariant.4)
    (let e = ap (times x) d.1 ∙ times-append x olds (d.0 ∷ []) in let z = times_late x d.0 (let no = d.2 in omega arith) in omega arith))

pub loop-preserved-then-whole : goal.loop-preserved-then-whole
loop-preserved-then-whole g c = let d = c.in-Some-draw.ensures.drawn in let olds = c.loop.seat.numbers in let was = c.loop.invariant in let next = c.add-next in
    let P : ℕ → Type 0 = Contains next.result.0.seen in let n = ap length d.1 ∙ length-append olds (d.0 ∷ []) in
    let Added : Type 0 = Contains next.result.0.seen c.in-Some-draw.number × (next.result.0.made ≡ c.loop.pass.made + 1) in (
      next.ensures.own,
      c.in-Some-draw.ensures.own,
      c.in-Some-draw.ensures.never_none,
      OnTrue_from next.result.1 (next.result.0.made ≡ length c.draw.new.seat.numbers) (λ added. let both : Added = OnTrue_at added next.ensures.added in let made = both.1 in
          let before : c.loop.pass.made ≡ length olds = OnTrue_at c.if-whole.true was.3 in omega arith),
      OnTrue_from next.result.1 (All P c.draw.new.seat.numbers) (λ added. let both : Added = OnTrue_at added next.ensures.added in
          let before : All (Contains c.loop.pass.seen) olds = OnTrue_at c.if-whole.true was.4 in
          subst (All P) (sym d.1) (All-push P olds d.0 (λ k e lt. kept_in c.loop.pass.seen next.result.0.seen _ next.ensures.seen (before k e lt)) (subst P d.2.1 both.0))),
    )
