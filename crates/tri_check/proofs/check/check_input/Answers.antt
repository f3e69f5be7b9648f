use Rattle.std.proofs.Common.{ap, Some, sym, ◌∙◌}
use Rattle.tri_check.proofs.InputFaults.{bad_answer, loop_answer, blocked_answer, crossing_answer, lone_answer, open_answer, input_answer, quick_answer}
use Rattle.tri_check.proofs.check.check_input.Goals as goal

pub returns-in-Some-clause-err : goal.returns-in-Some-clause-err
returns-in-Some-clause-err c = bad_answer _ _ _ _ (c.at.ensures ∙ ap Some (sym c.as_slice-pairs.ensures)) c.requires.sound.clear c.requires.before c.in-Some.p c.in-Some.ensures

pub returns-in-Some-first_loop-clause-err : goal.returns-in-Some-first_loop-clause-err
returns-in-Some-first_loop-clause-err c = loop_answer _ _ _ _ (c.at.ensures ∙ ap Some (sym c.as_slice-pairs.ensures)) c.requires.sound.clear c.requires.before c.in_default.ensures c.in-Some-first_loop.p c.in-Some-first_loop.ensures

pub returns-in-Some-blocked-clause-err : goal.returns-in-Some-blocked-clause-err
returns-in-Some-blocked-clause-err c = blocked_answer _ _ _ _ (c.at.ensures ∙ ap Some (sym c.as_slice-pairs.ensures)) c.requires.sound.clear c.requires.before c.in_ok-edges.edges c.in_ok-edges.ensures.completed c.in_default.ensures c.in_default-first_loop.ensures _ _ c.in-Some-blocked.ensures.0 c.in-Some-blocked.ensures.1

pub returns-in-Some-crossing-clause-err : goal.returns-in-Some-crossing-clause-err
returns-in-Some-crossing-clause-err c = crossing_answer _ _ _ _ (c.at.ensures ∙ ap Some (sym c.as_slice-pairs.ensures)) c.requires.sound.clear c.requires.before c.in_ok-edges.edges c.in_ok-edges.ensures.completed c.in_default.ensures c.in_default-first_loop.ensures c.in_default-blocked.ensures _ _ c.in-Some-crossing.ensures.0 c.in-Some-crossing.ensures.1

pub returns-in-Some-lone_point-clause-err : goal.returns-in-Some-lone_point-clause-err
returns-in-Some-lone_point-clause-err c = lone_answer _ _ _ _ (c.at.ensures ∙ ap Some (sym c.as_slice-pairs.ensures)) c.requires.sound.clear c.requires.before c.in_ok-edges.edges c.in_ok-edges.ensures.completed c.in_default.ensures c.in_default-first_loop.ensures c.in_default-blocked.ensures c.in_default-crossing.ensures c.in-Some-lone_point.p c.in-Some-lone_point.ensures

pub returns-in-Some-open_side-clause-err : goal.returns-in-Some-open_side-clause-err
returns-in-Some-open_side-clause-err c = open_answer _ _ _ _ (c.at.ensures ∙ ap Some (sym c.as_slice-pairs.ensures)) c.requires.sound.clear c.requires.before c.in_ok-edges.edges c.in_ok-edges.ensures.completed c.in_default.ensures c.in_default-first_loop.ensures c.in_default-blocked.ensures c.in_default-crossing.ensures c.in_default-lone_point.ensures c.in-Some-open_side.e c.in-Some-open_side.ensures

pub returns-clause-ok : goal.returns-clause-ok
returns-clause-ok c = input_answer _ _ _ _ (c.at.ensures ∙ ap Some (sym c.as_slice-pairs.ensures)) c.requires.sound.clear c.requires.before c.in_ok-edges.edges c.in_ok-edges.ensures.completed c.in_default.ensures c.in_default-first_loop.ensures c.in_ok-edges.ensures.edges c.in_default-blocked.ensures c.in_default-crossing.ensures c.in_default-lone_point.ensures c.in_default-open_side.ensures

pub returns-then-is_shown-clause-ok : goal.returns-then-is_shown-clause-ok
returns-then-is_shown-clause-ok c = quick_answer _ _ _ _ (c.at.ensures ∙ ap Some (sym c.as_slice-pairs.ensures)) c.requires.sound.clear c.requires.before c.in_ok-edges.edges c.in_ok-edges.ensures.completed c.in_default.ensures c.in_default-first_loop.ensures c.in_ok-edges.ensures.edges (c.in_ok-is_shown.ensures c.if-is_shown.true)
