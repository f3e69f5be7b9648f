use Rattle.std.proofs.Common.{sym, ◌∙◌}
use Rattle.std.proofs.lemmas.Slice.Eq.{slice_eq-Decides}
use Rattle.edge_table.proofs.Edges.{is_edge-Decides}
use Rattle.edge_table.proofs.list.EdgeList.same.Goals as goal

pub returns : goal.returns
returns c =
    let decides = slice_eq-Decides is_edge-Decides c.as_slice.result.now c.as_slice-2.result.now c.eq.result c.eq.ensures in
    let mine = c.as_slice.ensures.value ∙ c.self.view_is in
    let others = c.as_slice-2.ensures.value ∙ c.other.view_is in
    (λ h. sym mine ∙ decides.0 h ∙ others, λ h. decides.1 (mine ∙ h ∙ sym others))
