use Rattle.std.proofs.Common.{◌∙◌, ap, ap₂}
use Rattle.flip_list_law.specs.FlipLists.{same_place}
use Rattle.round_pack.specs.Slots.{slot_makes}
use Rattle.round_pack.specs.Chains.{last_where}
use Rattle.round_pack.proofs.number.undone_by.Goals as goal

pub returns : goal.returns
returns c =
    c.same_place.ensures
    ∙ ap₂ same_place (c.last_maker.ensures ∙ ap (λ t. last_where (λ s. slot_makes s t) c.args.slots.now) c.one_side.ensures) (c.last_maker-2.ensures ∙ ap (λ t. last_where (λ s. slot_makes s t) c.args.slots.now) c.other_side.ensures)
