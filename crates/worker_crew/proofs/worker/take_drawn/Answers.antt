use Rattle.std.proofs.Common.{◌≡◌, ◌∙◌, ℕ, List, [], ◌∷◌, ◌++◌, length, slice_set, sym, ap, subst, arith, length-append}
use Rattle.worker_pool.specs.declared.outcome.Outcome.TheVariants.{NoMemory}
use Rattle.worker_crew.specs.declared.taken.Taken.{Taken}
use Rattle.worker_crew.specs.Workers.{HasTaken}
use Rattle.worker_crew.proofs.Working.{drawn_more, has_taken_more, put_last, at_ok, at_err}
use Rattle.worker_crew.proofs.worker.take_drawn.Goals as goal

pub returns-in_default-clause-taken : goal.returns-in_default-clause-taken
returns-in_default-clause-taken g c = let d = c.in_default.ensures.drawn in
    subst (λ (n : List ℕ). HasTaken c.args.limits.now c.args.frame.now c.args.cell.now.ground n c.loop.pass c.loop.taken) (sym d.1) (drawn_more c.args.limits.now c.args.frame.now c.args.cell.now.ground c.loop.seat.numbers d.0 c.loop.pass c.loop.taken c.loop.invariant.4)

pub returns-then-is_err-clause-taken : goal.returns-then-is_err-clause-taken
returns-then-is_err-clause-taken g c = let d = c.in-Some-draw.ensures.drawn in
    let kept = at_err (c.push.new.self ≡ c.loop.taken) c.push.result (sym c.is_err.ensures.value ∙ c.if-is_err.true) c.push.ensures.err in
    subst (λ (t : List Taken). HasTaken c.args.limits.now c.args.frame.now c.args.cell.now.ground c.draw.new.seat.numbers c.loop.pass t) (sym kept)
    (subst (λ (n : List ℕ). HasTaken c.args.limits.now c.args.frame.now c.args.cell.now.ground n c.loop.pass c.loop.taken) (sym d.1) (drawn_more c.args.limits.now c.args.frame.now c.args.cell.now.ground c.loop.seat.numbers d.0 c.loop.pass c.loop.taken c.loop.invariant.4))

pub at_mut-requires : goal.at_mut-requires
at_mut-requires g c = let kept : Taken = record { turn = c.in-Some-draw.turn; outcome = NoMemory } in
    let grown = at_ok (c.push.new.self ≡ c.loop.taken ++ kept ∷ []) c.push.result (sym c.is_err.ensures.value ∙ c.if-is_err.false) c.push.ensures.ok in
    let e = ap (length {A = Taken}) grown in let l = c.len-place.ensures in omega (arith, e, l, length-append c.loop.taken (kept ∷ []))

pub loop-preserved : goal.loop-preserved
loop-preserved g c = let d = c.in-Some-draw.ensures.drawn in let next = c.take_turn-next in let cell = c.args.cell.now in let turn = c.in-Some-draw.turn in
    let kept : Taken = record { turn = turn; outcome = NoMemory } in let made : Taken = record { turn = turn; outcome = next.result.1 } in
    let grown = at_ok (c.push.new.self ≡ c.loop.taken ++ kept ∷ []) c.push.result (sym c.is_err.ensures.value ∙ c.if-is_err.false) c.push.ensures.ok in
    let list = ap (λ (t : List Taken). slice_set t c.len-place.result made) grown ∙ put_last c.loop.taken kept made c.len-place.result c.len-place.ensures in
    let numbers = d.1 ∙ ap (λ (n : ℕ). c.loop.seat.numbers ++ n ∷ []) (sym d.2.1) in
    let more = has_taken_more c.args.limits.now c.args.frame.now cell c.loop.seat.numbers c.loop.pass next.result.0 c.loop.taken next.new.replica made (let e = c.requires.turns in let l = d.2.0 in let s = d.2.1 in omega (arith, e, l, s)) c.loop.invariant.4 next.ensures in (
      next.ensures.own,
      c.in-Some-draw.ensures.own,
      next.ensures.caught,
      c.in-Some-draw.ensures.never_none,
      subst (λ (t : List Taken). HasTaken c.args.limits.now c.args.frame.now cell.ground c.draw.new.seat.numbers next.result.0 t) (sym list)
          (subst (λ (n : List ℕ). HasTaken c.args.limits.now c.args.frame.now cell.ground n next.result.0 (c.loop.taken ++ made ∷ [])) (sym numbers) more),
    )
