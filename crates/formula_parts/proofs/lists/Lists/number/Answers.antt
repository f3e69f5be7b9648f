use Rattle.std.proofs.Common.{◌≡◌, ◌∙◌, Contains, IfOk, IfErr, sym, ap, subst}
use Rattle.edge_table.specs.Edges.{IsAscending}
use Rattle.edge_table.specs.Order.{IsAt, BelongsAt}
use Rattle.edge_table.proofs.Searches.{found_at, belongs_at}
use Rattle.edge_table.proofs.Places.{belongs_absent}
use Rattle.formula_law.specs.Frames.{Frame}
use Rattle.formula_parts.specs.Lists.{edge_at}
use Rattle.formula_parts.proofs.Whole.{read_edge}
use Rattle.formula_parts.proofs.lists.Lists.number.Goals as goal

pub unreachable-requires : goal.unreachable-requires
unreachable-requires c =
    let es : c.deref.result.now ≡ c.args.self.now.segments = c.deref.ensures.value ∙ ap (λ (F : Frame). F.segments) c.self.view_is in
    let up = subst IsAscending (sym c.deref.ensures.value) c.self.invariant.segments_ascend in
    let b = subst (λ r. IfErr r (BelongsAt c.deref.result.now c.args.e)) c.in-Err.is (belongs_at c.deref.result.now c.args.e c.binary_search.result up c.binary_search.ensures.bound c.binary_search.ensures.position) in
    belongs_absent c.deref.result.now c.args.e c.in-Err.field-0 b (subst (λ s. Contains s c.args.e) (sym es) c.requires)

pub returns-clause-there : goal.returns-clause-there
returns-clause-there c =
    let es : c.deref.result.now ≡ c.args.self.now.segments = c.deref.ensures.value ∙ ap (λ (F : Frame). F.segments) c.self.view_is in
    let a : IsAt c.deref.result.now c.args.e c.in-Ok.n = subst (λ r. IfOk r (IsAt c.deref.result.now c.args.e)) c.in-Ok.is (found_at c.deref.result.now c.args.e c.binary_search.result c.binary_search.ensures.bound c.binary_search.ensures.position) in
    subst (λ s. edge_at s c.in-Ok.n ≡ c.args.e) es (read_edge c.deref.result.now c.in-Ok.n c.args.e a.within (sym a.there))
