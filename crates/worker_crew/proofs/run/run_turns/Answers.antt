use Rattle.std.proofs.Common.{◌≡◌, ◌∙◌, ℕ, List, length, replicate, sym, ap, subst, arith}
use Rattle.std.specs.Prelude.{sum_by}
use Rattle.std.proofs.lemmas.List.{length-replicate}
use Rattle.vcell.specs.Passes.{PassView}
use Rattle.plan_law.specs.Solving.{turns_of}
use Rattle.plan_core.specs.HeldPlans.{HeldPlan}
use Rattle.book_core.specs.declared.entry.Entry.{Entry}
use Rattle.book_core.specs.HeldBooks.{ground_of}
use Rattle.worker_pool.specs.declared.outcome.Outcome.{Outcome}
use Rattle.worker_pool.specs.declared.outcome.Outcome.TheVariants.{NoMemory}
use Rattle.worker_pool.specs.Jobs.{order_of}
use Rattle.worker_pool.proofs.Compared.{have_rows}
use Rattle.worker_crew.specs.Workers.{HaveTaken, all_taken, filled}
use Rattle.worker_crew.specs.Crews.{AreTurnsOfWorkers}
use Rattle.worker_crew.proofs.Filled.{length-filled}
use Rattle.worker_crew.proofs.Gathered.{turns_below, workers_leave_turns}
use Rattle.worker_crew.proofs.run.run_turns.Goals as goal

pub crew-passes-requires-clause-passes : goal.crew-passes-requires-clause-passes
crew-passes-requires-clause-passes g c κs within = λ k d lt. let p = c.in-Ok-make-2.ensures.passes k d lt in (p.0, p.2)

pub put_parts-requires : goal.put_parts-requires
put_parts-requires g c = let ground = c.in-Ok-make-2.ensures.lock.0 in let crew = c.crew-passes in
    let below = turns_below c.args.limits.now c.args.frame.now c.in-Ok-make-2.cell.ground crew.result.1.items crew.result.0.items crew.result.2.items crew.ensures.taken in
    let turns = c.turns_on-turns.ensures.turns in
    let long : length c.in-Ok.blank ≡ turns_of (order_of c.args.limits.now) c.in-Ok-make-2.cell.ground.problem.inputs =
    ap (length {A = Outcome}) c.in-Ok.ensures ∙ length-replicate c.turns_on-turns.result NoMemory ∙ turns ∙ ap (λ (q : HeldPlan). turns_of (order_of c.args.limits.now) q.problem.inputs) (sym ground) in
    λ k d lt. let l = below k d lt in omega (arith, l, long)

pub returns-in-Ok-make-2-clause-count : goal.returns-in-Ok-make-2-clause-count
returns-in-Ok-make-2-clause-count g c =
    ap (length {A = Outcome}) c.put_parts.ensures ∙ length-filled c.in-Ok.blank (all_taken c.crew-passes.result.2.items) ∙ ap (length {A = Outcome}) c.in-Ok.ensures ∙ length-replicate c.turns_on-turns.result NoMemory ∙ c.turns_on-turns.ensures.turns

pub returns-in-Ok-make-2-clause-turns : goal.returns-in-Ok-make-2-clause-turns
returns-in-Ok-make-2-clause-turns g c = let limits = c.args.limits.now in let frame = c.args.frame.now in let crew = c.crew-passes in let book = c.close-book in let lock = c.in-Ok-make-2.ensures.lock in
    let same : ground_of book.result ≡ ground_of c.args.book = book.ensures.ground ∙ lock.0 in
    let taken = subst (λ (q : HeldPlan). HaveTaken limits frame q crew.result.1.items crew.result.0.items crew.result.2.items) (sym book.ensures.ground) crew.ensures.taken in
    let count = crew.ensures.count.0 ∙ c.in-Ok-make-2.ensures.count in
    let made : length book.result.journal ≡ sum_by (λ (p : PassView Entry HeldPlan). p.made) crew.result.0.items = let m = book.ensures.made in let s = lock.2 in let z = ap (length {A = Entry}) c.requires.book in omega (arith, m, s, z) in
    let law = workers_leave_turns c.args.workers limits frame book.result c.close.result crew.result.1.items crew.result.0.items crew.result.2.items c.bound.ensures.legal count taken c.close.ensures.once book.ensures.seen made in
    let blank = c.in-Ok.ensures ∙ ap (λ (n : ℕ). replicate n NoMemory) (c.turns_on-turns.ensures.turns ∙ ap (λ (q : HeldPlan). turns_of (order_of limits) q.problem.inputs) (sym same)) in
    let outcomes = c.put_parts.ensures ∙ ap (λ (o : List Outcome). filled o (all_taken crew.result.2.items)) blank in
    subst (λ (q : HeldPlan). AreTurnsOfWorkers c.args.workers limits frame q book.result.journal c.put_parts.new.outcomes) same
    (subst (λ (o : List Outcome). AreTurnsOfWorkers c.args.workers limits frame (ground_of book.result) book.result.journal o) (sym outcomes) law)

pub returns-in-Ok-make-2-clause-rows : goal.returns-in-Ok-make-2-clause-rows
returns-in-Ok-make-2-clause-rows g c =
    have_rows c.args.limits.now c.args.frame.now (ground_of c.args.book) c.close-book.result.journal c.put_parts.new.outcomes (returns-in-Ok-make-2-clause-turns g c).turns (returns-in-Ok-make-2-clause-count g c)
