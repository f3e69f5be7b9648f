use Rattle.std.proofs.lemmas.Result.{IfOk-weaker}
use Rattle.half_edges.proofs.Ways.{directed_by}
use Rattle.half_edges.proofs.sides.ways_of.Goals as goal

pub returns : goal.returns
returns c = IfOk-weaker c.ends_of.result _ _ (λ v h. directed_by _ _ _ _ _ _ c.requires c.in_ok-table.ensures c.in_ok-sides.ensures c.deref.ensures.value h) c.ends_of.ensures
