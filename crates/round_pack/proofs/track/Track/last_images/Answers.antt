use Rattle.std.proofs.Common.{◌∙◌, length, refl, sym, ap, arith}
use Rattle.flip_list_law.specs.FlipLists.{last_images}
use Rattle.round_pack.specs.Slots.{flips_in, numbers_in}
use Rattle.round_pack.proofs.Slots.{as_many_numbers}
use Rattle.round_pack.proofs.Groups.{ok_same, seen_images, seen_last}
use Rattle.round_pack.proofs.track.Track.last_images.Goals as goal

pub returns-in_err-set-clause-members : goal.returns-in_err-set-clause-members
returns-in_err-set-clause-members c = seen_last _ _ _ _ c.self.invariant.0 _ _ c.self.view_is

pub returns-clause-images : goal.returns-clause-images
returns-clause-images c =
    ok_same c.seq_of.result c.in_ok-set.set (last_images c.args.self.now.flips) c.seq_of.ensures.same
    (seen_images _ _ _ _ c.self.invariant.0 _ _ c.self.view_is c.in_ok-set.set c.deref-3.result.now c.deref-4.result.now (numbers_in c.self.inside.slots.items) _ (c.deref-3.ensures.value ∙ c.in_ok-flips.ensures ∙ ap flips_in c.deref.ensures.value) (c.deref-4.ensures.value ∙ c.in_ok-numbers.ensures ∙ ap numbers_in c.deref-2.ensures.value) (let e = c.self.invariant.2.as_many in omega arith) refl c.in_ok-set.ensures c.seq_of.ensures.ascending)

pub returns-clause-members : goal.returns-clause-members
returns-clause-members c = seen_last _ _ _ _ c.self.invariant.0 _ _ c.self.view_is

pub returns-in_err-flips-clause-members : goal.returns-in_err-flips-clause-members
returns-in_err-flips-clause-members c = seen_last _ _ _ _ c.self.invariant.0 _ _ c.self.view_is

pub returns-in_err-numbers-clause-members : goal.returns-in_err-numbers-clause-members
returns-in_err-numbers-clause-members c = seen_last _ _ _ _ c.self.invariant.0 _ _ c.self.view_is

pub image_set-requires : goal.image_set-requires
image_set-requires c =
    ap length (c.deref-4.ensures.value ∙ c.in_ok-numbers.ensures ∙ ap numbers_in c.deref-2.ensures.value) ∙ as_many_numbers c.self.inside.slots.items
    ∙ sym (ap length (c.deref-3.ensures.value ∙ c.in_ok-flips.ensures ∙ ap flips_in c.deref.ensures.value))
