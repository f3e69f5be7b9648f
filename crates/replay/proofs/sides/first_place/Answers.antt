use Rattle.std.proofs.Common.{◌≡◌, ◌∙◌, sym, ap, subst}
use Rattle.replay.specs.Steps.{IsOuterSide, IsFirstPlace, earlier}
use Rattle.replay.proofs.Firsts.{side_first}
use Rattle.replay.proofs.sides.first_place.Goals as goal

pub returns : goal.returns
returns c =
    let e : c.earlier-3.result ≡ earlier c.place_of-ab.result (earlier c.place_of-bc.result (earlier c.place_of-cd.result c.place_of-da.result)) =
    c.earlier-3.ensures ∙ ap (earlier c.place_of-ab.result) (c.earlier-2.ensures ∙ ap (earlier c.place_of-bc.result) c.earlier.ensures) in
    subst (IsFirstPlace (IsOuterSide c.args.q) c.args.taken.now.keys) (sym e) (side_first c.args.q c.args.taken.now.keys _ _ _ _ c.place_of-ab.ensures c.place_of-bc.ensures c.place_of-cd.ensures c.place_of-da.ensures)
