use Rattle.std.proofs.Common.{◌≡◌, ◌∙◌, refl, sym, ap, subst}
use Rattle.rand_core.specs.Stream.{next_u32}
use Rattle.rand_core.specs.Steps.{first_words, stream_of, steps_u32}
use Rattle.rand_pcg.specs.Pcg.{pcg32}
use Rattle.plan_law.specs.Improvers.{walk}
use Rattle.plan_law.specs.Solving.{answer, move_of}
use Rattle.plan_moves.specs.Answers.{walk_answer}
use Rattle.plan_moves.specs.Improved.{words_of}
use Rattle.plan_moves.proofs.Improves.{pcg_words}
use Rattle.book_core.specs.Entries.{Shown}
use Rattle.worker_pool.specs.Jobs.{job_of, order_of}
use Rattle.worker_pool.specs.Outcomes.{FindsNone}
use Rattle.worker_pool.specs.Works.{ground_for}
use Rattle.worker_pool.proofs.work.do_job.Goals as goal

pub returns-in-Better : goal.returns-in-Better
returns-in-Better c =
    let ws : first_words next_u32 8 (stream_of (steps_u32 pcg32) c.walker-words.result) ≡ words_of c.args.limits.now.seed c.in-Walk.p = pcg_words 8 c.walker-words.result ∙ ap (first_words pcg32 8) c.walker-words.ensures in
    let walked = sym (c.in_ok-edges-in-Walk.ensures.ok ∙ ap (walk c.args.plan.now.problem.points c.args.plan.now.plan) ws) ∙ ap walk_answer c.in-Better.is in
    let here = c.requires.job ∙ ap job_of c.in-Walk.is in
    (tt, ap (answer {E = Shown} (order_of c.args.limits.now).words c.args.plan.now.problem.points c.args.plan.now.problem.inputs c.args.plan.now.plan c.args.u) here ∙ ap (move_of {E = Shown} c.args.u) walked)

pub returns-in-NotBetter : goal.returns-in-NotBetter
returns-in-NotBetter c =
    let ws : first_words next_u32 8 (stream_of (steps_u32 pcg32) c.walker-words.result) ≡ words_of c.args.limits.now.seed c.in-Walk.p = pcg_words 8 c.walker-words.result ∙ ap (first_words pcg32 8) c.walker-words.ensures in
    let walked = sym (c.in_ok-edges-in-Walk.ensures.ok ∙ ap (walk c.args.plan.now.problem.points c.args.plan.now.plan) ws) ∙ ap walk_answer c.in-NotBetter.is in
    let here = c.requires.job ∙ ap job_of c.in-Walk.is in
    (refl, subst (FindsNone c.args.limits.now (ground_for c.args.plan.now.problem c.args.plan.now.plan) c.args.plan.now.plan) (sym here) walked)
