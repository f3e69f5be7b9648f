use Rattle.std.proofs.Common.{◌++◌, ◌∷◌, [], ℕ, List, reverse, ap, ◌∙◌, subst}
use Rattle.log_law.specs.Trails.{HaveSame, negated_at}
use Rattle.sat_search.proofs.Learning.{lesson_is}
use Rattle.sat_search.proofs.lesson.lesson.Goals as goal

pub returns : goal.returns
returns c =
    lesson_is c.args.state.now c.requires.search c.args.conflict c.in_ok-r.r.left.items c.in_ok-r.r.reasons.items
    (record { id = c.args.id; literals = c.in_ok-literals_left.field-0; hints = c.in_ok-hints_of.field-0 })
    c.in_ok-r.ensures.resolving c.in_ok-r.ensures.ends c.requires.id c.in_ok-literals_left.ensures.sorted
    (subst (λ (ps : List ℕ). HaveSame c.in_ok-literals_left.field-0 (negated_at c.args.state.now.trail ps)) c.deref.ensures.value c.in_ok-literals_left.ensures.same)
    (c.in_ok-hints_of.ensures ∙ ap (λ (n : ℕ). reverse c.in_ok-r.r.reasons.items ++ n ∷ []) c.in_ok-r.ensures.conflict)
