use Rattle.std.proofs.Common.{subst, subst₂, sym, ◌∙◌}
use Rattle.tri_check.specs.Stages.{IsFaultless, IsInput}
use Rattle.tri_check.proofs.Made.{no_layout, done_more}
use Rattle.tri_check.proofs.check.check_inputs.Goals as goal

pub check_input-requires-clause-before : goal.check_input-requires-clause-before
check_input-requires-clause-before c = λ s l. subst (λ ps. IsFaultless ps c.args.inputs.now s) (sym (c.as_slice-list.ensures ∙ c.deref.ensures)) (c.loop-t.invariant.inputs s no_layout l).faultless

pub loop-t-preserved : goal.loop-t-preserved
loop-t-preserved c =
    done_more c.args.points.now.value c.args.inputs.now c.loop-t.items.items c.push.new.self.items c.loop-t.t c.from_edges.result c.loop-t.invariant
    (c.from_edges.ensures.points ∙ c.in_ok-try_clone.ensures)
    (subst₂ (λ ps es. IsInput ps c.args.inputs.now c.loop-t.t es) (c.as_slice-list.ensures ∙ c.deref.ensures) (sym c.from_edges.ensures.edges) c.in_ok-edges.ensures.ok)
    c.in_ok-push.ensures.items
