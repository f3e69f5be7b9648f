use Rattle.std.proofs.Common.{◌∙◌, sym}
use Rattle.edge_table.specs.Edges.{is_edge}
use Rattle.edge_table.proofs.Edges.{is_edge-Decides}
use Rattle.indexmap.proofs.CallerLemmas.{Contains-list_any}
use Rattle.replay.proofs.Lists.{edge_found}
use Rattle.replay.proofs.round.is_taken.Goals as goal

pub returns : goal.returns
returns c = (
  λ t. Contains-list_any is_edge (λ x y h. (is_edge-Decides x y).0 h) c.args.taken.now.keys c.args.e (sym c.contains.ensures ∙ t),
  λ k. c.contains.ensures ∙ edge_found c.args.taken.now.keys c.args.e k,
)
