use Rattle.std.proofs.Common.{◌≡◌, sym, subst}
use Rattle.edge_table.specs.declared.edge.Edge.{Edge}
use Rattle.replay.specs.Steps.{IsFirstPlace}
use Rattle.replay.proofs.Firsts.{place_first}
use Rattle.replay.proofs.sides.place_of.Goals as goal

pub returns : goal.returns
returns c =
    subst (λ (e : Edge). IsFirstPlace (λ f. f ≡ e) c.args.taken.now.keys c.get_index_of.result) c.in-Some.ensures.ends
    (place_first c.in-Some.f c.args.taken.now.keys c.get_index_of.result (sym c.get_index_of.ensures.index))
