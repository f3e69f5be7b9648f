use Rattle.std.proofs.Common.{◌++◌, ◌∷◌, [], refl, sym, ap, ◌∙◌, subst}
use Rattle.std.specs.Prelude.{All}
use Rattle.log_law.specs.declared.Lit.{Lit}
use Rattle.log_law.specs.Clauses.{Clause, IsVariable}
use Rattle.sat_state.specs.Searches.{Search, MayLearn}
use Rattle.sat_search.proofs.Learning.{IsHighest, IsMet, back_at, lesson_fits, may_learn}
use Rattle.sat_search.proofs.Waiting.{ready_same, ready_back}
use Rattle.sat_search.proofs.lesson.learn.Goals as goal

pub level_below-lower-requires-clause-in_range : goal.level_below-lower-requires-clause-in_range
level_below-lower-requires-clause-in_range c =
    let T = c.requires.taught in
    let fits = lesson_fits c.args.state.now c.requires.search T.conflict T.falsified T.line T.lesson in
    subst (λ (ls : Clause). All (λ (l : Lit). IsVariable c.args.state.now.variables l.var) ls) T.says fits.in_range

pub learn-requires-clause-may : goal.learn-requires-clause-may
learn-requires-clause-may c =
    let T = c.requires.taught in
    subst (λ (s : Search). MayLearn s c.args.clause) (sym c.back.ensures)
    (subst (MayLearn (back_at c.args.state.now c.level_below-lower.result)) T.says
    (may_learn c.args.state.now c.requires.search T.conflict T.falsified T.line T.lesson c.level_below-lower.result c.requires.above c.level_below-lower.ensures.below
    (subst (λ (ls : Clause). IsHighest c.args.state.now ls c.level_below-lower.result) (sym T.says) c.level_below-lower.ensures.highest)
    (subst (λ (ls : Clause). IsMet c.args.state.now ls c.level_below-lower.result) (sym T.says) c.level_below-lower.ensures.met)))

pub returns-clause-variables : goal.returns-clause-variables
returns-clause-variables c = ap (λ (s : Search). s.variables) c.in_ok-learn.ensures.ok ∙ ap (λ (s : Search). s.variables) c.back.ensures

pub returns-clause-ready : goal.returns-clause-ready
returns-clause-ready c =
    ready_same (back_at c.args.state.now c.level_below-lower.result) c.learn.new.self c.release.new.self c.release.new.self
    (ap (λ (s : Search). s.variables) c.in_ok-learn.ensures.ok ∙ ap (λ (s : Search). s.variables) c.back.ensures)
    (ap (λ (s : Search). s.trail) c.in_ok-learn.ensures.ok ∙ ap (λ (s : Search). s.trail) c.back.ensures) refl
    (ready_back c.args.state.now c.level_below-lower.result c.args.order.now c.release.new.self c.requires.ready c.in_ok-release.ensures.kept c.in_ok-release.ensures.freed)

pub returns-clause-held : goal.returns-clause-held
returns-clause-held c = ap (λ (s : Search). s.clauses) c.in_ok-learn.ensures.ok ∙ ap (λ (s : Search). s.clauses ++ c.args.clause ∷ []) c.back.ensures
