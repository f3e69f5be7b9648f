use Rattle.std.proofs.Common.{◌≡◌, ◌∙◌, ◌++◌, ◌∷◌, [], ap, sym, subst}
use Rattle.tri_theory.specs.Triangulations.{IsSegment}
use Rattle.edge_table.proofs.Edges.{edge_of}
use Rattle.tri_check.proofs.Searches.{refuted}
use Rattle.formula_parts.specs.Found.{link}
use Rattle.formula_parts.proofs.Found.{found_add, found_skip}
use Rattle.formula_parts.proofs.segments.add_segment.Goals as goal

pub returns-in_ok-push-in-Some : goal.returns-in_ok-push-in-Some
returns-in_ok-push-in-Some c =
    let i : c.in-Some.e ≡ link c.args.a c.args.b = c.in-Some.ensures.ends ∙ edge_of (link c.args.a c.args.b) c.requires.order in
    found_add (IsSegment c.args.inst.now.points) 64 c.args.segments.now.items c.args.a c.args.b c.requires.found _
    (c.in_ok-push-in-Some.ensures.items ∙ ap (λ e. c.args.segments.now.items ++ e ∷ []) i)
    (subst (IsSegment c.args.inst.now.points) i (c.is_segment.ensures.0 c.if-is_segment.true))

pub returns-else-is_segment : goal.returns-else-is_segment
returns-else-is_segment c =
    let i : c.in-Some.e ≡ link c.args.a c.args.b = c.in-Some.ensures.ends ∙ edge_of (link c.args.a c.args.b) c.requires.order in
    found_skip (IsSegment c.args.inst.now.points) 64 c.args.segments.now.items c.args.a c.args.b c.requires.found
    (λ s. refuted _ _ c.is_segment.ensures c.if-is_segment.false (subst (IsSegment c.args.inst.now.points) (sym i) s))
