use Rattle.std.proofs.Common.{◌∙◌, length, ap}
use Rattle.flip_list_law.specs.FlipLists.{grouped}
use Rattle.round_pack.specs.Slots.{flips_in, numbers_in}
use Rattle.round_pack.specs.Groups.{AreAscendingSets}
use Rattle.round_pack.proofs.Groups.{ok_becomes, seen_rounds, seen_replays}
use Rattle.round_pack.proofs.track.Track.grouped.Goals as goal

pub returns-in_err-sets-clause-schedule : goal.returns-in_err-sets-clause-schedule
returns-in_err-sets-clause-schedule c = seen_replays _ _ _ _ c.self.invariant.0 _ _ c.self.view_is

pub returns-clause-rounds : goal.returns-clause-rounds
returns-clause-rounds c =
    ok_becomes c.rounds_of.result c.deref-5.result.now (grouped c.args.self.now.flips) (AreAscendingSets c.deref-5.result.now (length c.deref-5.result.now)) c.rounds_of.ensures.ascending c.rounds_of.ensures.same
    (λ up. seen_rounds _ _ _ _ c.self.invariant.0 _ _ c.self.view_is c.in_ok-sets.sets.items c.deref-5.result.now c.deref-3.result.now c.deref-4.result.now (c.deref-3.ensures.value ∙ c.in_ok-flips.ensures ∙ ap flips_in c.deref.ensures.value) (c.deref-4.ensures.value ∙ c.in_ok-numbers.ensures ∙ ap numbers_in c.deref-2.ensures.value) c.in_ok-sets.ensures c.deref-5.ensures.value up)

pub returns-clause-schedule : goal.returns-clause-schedule
returns-clause-schedule c = seen_replays _ _ _ _ c.self.invariant.0 _ _ c.self.view_is

pub returns-in_err-flips-clause-schedule : goal.returns-in_err-flips-clause-schedule
returns-in_err-flips-clause-schedule c = seen_replays _ _ _ _ c.self.invariant.0 _ _ c.self.view_is

pub returns-in_err-numbers-clause-schedule : goal.returns-in_err-numbers-clause-schedule
returns-in_err-numbers-clause-schedule c = seen_replays _ _ _ _ c.self.invariant.0 _ _ c.self.view_is
