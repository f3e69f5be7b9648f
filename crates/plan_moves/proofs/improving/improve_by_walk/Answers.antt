use Rattle.std.proofs.Common.{◌≡◌, ◌∙◌, sym, ap}
use Rattle.std.proofs.lemmas.Result.{on_ok_weaker}
use Rattle.rand_core.specs.Stream.{next_u32}
use Rattle.rand_core.specs.Steps.{first_words, stream_of, steps_u32}
use Rattle.rand_pcg.specs.Lcg.{started, increment_of}
use Rattle.rand_pcg.specs.Pcg.{multiplier_64, pcg32}
use Rattle.plan_law.specs.Improvers.{walk}
use Rattle.plan_moves.specs.Answers.{walk_answer}
use Rattle.plan_moves.specs.Improved.{words_of}
use Rattle.plan_moves.proofs.Improves.{pcg_words, better_walk, no_walk, can_follow}
use Rattle.plan_moves.proofs.improving.improve_by_walk.Goals as goal

pub follow_all-requires : goal.follow_all-requires
follow_all-requires c =
    can_follow c.args.plan.now.problem.points c.args.plan.now.plan (first_words next_u32 8 (stream_of (steps_u32 pcg32) c.walker-words.result)) c.in-Better.edges (sym c.in_ok-edges.ensures.ok ∙ ap walk_answer c.in-Better.is)

pub returns-in-Better-clause-ok : goal.returns-in-Better-clause-ok
returns-in-Better-clause-ok c =
    let ws : first_words next_u32 8 (stream_of (steps_u32 pcg32) c.walker-words.result) ≡ words_of c.args.seed c.args.p =
    pcg_words 8 c.walker-words.result ∙ ap (first_words pcg32 8) (c.walker-words.ensures ∙ ap (λ n. started 64 multiplier_64 c.args.seed (increment_of 64 n)) c.from.ensures) in
    on_ok_weaker c.follow_all.result
    (λ f. better_walk c.args.plan.now.problem.points c.args.plan.now.problem.inputs c.args.plan.now.plan c.follow_all.new.plan.plan c.args.p c.in-Better.edges (walk c.args.plan.now.problem.points c.args.plan.now.plan (words_of c.args.seed c.args.p))
    (sym (c.in_ok-edges.ensures.ok ∙ ap (walk c.args.plan.now.problem.points c.args.plan.now.plan) ws) ∙ ap walk_answer c.in-Better.is) f)
    c.follow_all.ensures.ok

pub returns-in-NotBetter-clause-ok : goal.returns-in-NotBetter-clause-ok
returns-in-NotBetter-clause-ok c =
    let ws : first_words next_u32 8 (stream_of (steps_u32 pcg32) c.walker-words.result) ≡ words_of c.args.seed c.args.p =
    pcg_words 8 c.walker-words.result ∙ ap (first_words pcg32 8) (c.walker-words.ensures ∙ ap (λ n. started 64 multiplier_64 c.args.seed (increment_of 64 n)) c.from.ensures) in
    no_walk c.args.plan.now.problem.points c.args.plan.now.problem.inputs c.args.plan.now.plan c.args.p (walk c.args.plan.now.problem.points c.args.plan.now.plan (words_of c.args.seed c.args.p))
    (sym (c.in_ok-edges.ensures.ok ∙ ap (walk c.args.plan.now.problem.points c.args.plan.now.plan) ws) ∙ ap walk_answer c.in-NotBetter.is)
