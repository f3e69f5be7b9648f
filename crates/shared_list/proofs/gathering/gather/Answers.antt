use Rattle.std.proofs.Common.{arith, ℕ, length, ap}
use Rattle.std.proofs.lemmas.Bool.{OnTrue_at}
use Rattle.shared_list.proofs.Counted.{contains_times, each_once, once_in}
use Rattle.shared_list.proofs.gathering.gather.Goals as goal

pub returns-then-whole-clause-once : goal.returns-then-whole-clause-once
returns-then-whole-clause-once g c = let list = c.close-all.result.items.items in let crew = c.crew-passes.ensures in
    let made = OnTrue_at c.if-whole.true crew.made in let m = c.close-all.ensures.made in let draws = c.close.ensures.count in let late = c.close.ensures.late in let l = crew.late in
    let start = c.in-Ok.ensures.lock.2 in let e = ap (length {A = ℕ}) c.new.ensures.1 in let turns = c.in_ok-claims.ensures.counter.0 in
    let same = crew.count.1 in let seats = c.in_ok-claims.ensures.count in let some = c.requires.workers.0 in
    each_once list c.args.turns (omega arith) (λ x lt. contains_times list x (OnTrue_at c.if-whole.true crew.added list c.close-all.ensures.seen x (omega arith)
    (let once = c.close.ensures.once x in let one = once_in x c.close.result (omega arith) in omega arith)))
