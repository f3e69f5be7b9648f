use Rattle.std.proofs.Common.{◌≡◌, ◌∙◌, length, suc, remove, get_or, None, Some, sym, ap, subst, arith}
use Rattle.flip_list_law.specs.FlipLists.{rounds_before, last_numbers}
use Rattle.round_pack.specs.Slots.{flips_in, numbers_in, rank, slot_number}
use Rattle.round_pack.specs.Chains.{AreOrdered, undone_slot}
use Rattle.round_pack.specs.Counts.{AreCounted}
use Rattle.round_pack.proofs.Slots.{undone_holds, undone_place, not_undone, number_here}
use Rattle.round_pack.proofs.Ends.{undone_within, kept_ordered}
use Rattle.round_pack.proofs.RoundCounts.{counted_at, rest_at, rest_filled}
use Rattle.round_pack.proofs.Seen.{rounds_less, rounds_more}
use Rattle.round_pack.proofs.track.Track.rounds_after.Goals as goal

pub undone_by-requires-clause-ordered : goal.undone_by-requires-clause-ordered
undone_by-requires-clause-ordered c = subst (λ ss. AreOrdered (flips_in ss)) (sym c.deref-3.ensures.value) (kept_ordered _ _ _ _ c.self.invariant.0)

pub next_number-next-requires-clause-ordered : goal.next_number-next-requires-clause-ordered
next_number-next-requires-clause-ordered c = subst (λ ss. AreOrdered (flips_in ss)) (sym c.deref-in-None-3.ensures.value) (kept_ordered _ _ _ _ c.self.invariant.0)

pub number_at-requires : goal.number_at-requires
number_at-requires c =
    let v = subst (λ ss. undone_slot ss c.flip_at-flip.result ≡ Some c.in-Some.place) c.deref-3.ensures.value (sym c.undone_by.ensures ∙ c.in-Some.is) in
    let held = undone_holds c.self.inside.slots.items c.flip_at-flip.result c.in-Some.place v in
    let u = undone_place c.self.inside.slots.items c.flip_at-flip.result c.in-Some.place v in
    let l = held.2 in let e = ap length c.deref-in-Some-2.ensures.value in omega arith

pub rounds_without-requires-clause-positive : goal.rounds_without-requires-clause-positive
rounds_without-requires-clause-positive c =
    let v = subst (λ ss. undone_slot ss c.flip_at-flip.result ≡ Some c.in-Some.place) c.deref-3.ensures.value (sym c.undone_by.ensures ∙ c.in-Some.is) in
    let held = undone_holds c.self.inside.slots.items c.flip_at-flip.result c.in-Some.place v in
    let u = undone_place c.self.inside.slots.items c.flip_at-flip.result c.in-Some.place v in
    let within = undone_within (flips_in c.self.inside.slots.items) c.flip_at-flip.result (rank c.self.inside.slots.items c.in-Some.place) u in
    let number = number_here c.self.inside.slots.items c.in-Some.place held.0 held.1 c.number_at.result (c.number_at.ensures ∙ ap (λ ss. slot_number (get_or ss c.in-Some.place None)) c.deref-in-Some-2.ensures.value) in
    let r = (counted_at _ _ _ _ c.self.invariant.0 c.self.inside.counts.items c.self.invariant.2 (rank c.self.inside.slots.items c.in-Some.place) c.number_at.result within number).0 in
    let e = ap length c.deref-in-Some.ensures.value in
    omega arith

pub rounds_without-requires-clause-within : goal.rounds_without-requires-clause-within
rounds_without-requires-clause-within c =
    let v = subst (λ ss. undone_slot ss c.flip_at-flip.result ≡ Some c.in-Some.place) c.deref-3.ensures.value (sym c.undone_by.ensures ∙ c.in-Some.is) in
    let held = undone_holds c.self.inside.slots.items c.flip_at-flip.result c.in-Some.place v in
    let u = undone_place c.self.inside.slots.items c.flip_at-flip.result c.in-Some.place v in
    let within = undone_within (flips_in c.self.inside.slots.items) c.flip_at-flip.result (rank c.self.inside.slots.items c.in-Some.place) u in
    let number = number_here c.self.inside.slots.items c.in-Some.place held.0 held.1 c.number_at.result (c.number_at.ensures ∙ ap (λ ss. slot_number (get_or ss c.in-Some.place None)) c.deref-in-Some-2.ensures.value) in
    let r = (counted_at _ _ _ _ c.self.invariant.0 c.self.inside.counts.items c.self.invariant.2 (rank c.self.inside.slots.items c.in-Some.place) c.number_at.result within number).1 in
    let e = ap length c.deref-in-Some.ensures.value in
    omega arith

pub returns-in-Some : goal.returns-in-Some
returns-in-Some c =
    let v = subst (λ ss. undone_slot ss c.flip_at-flip.result ≡ Some c.in-Some.place) c.deref-3.ensures.value (sym c.undone_by.ensures ∙ c.in-Some.is) in
    let held = undone_holds c.self.inside.slots.items c.flip_at-flip.result c.in-Some.place v in
    let u = undone_place c.self.inside.slots.items c.flip_at-flip.result c.in-Some.place v in
    let within = undone_within (flips_in c.self.inside.slots.items) c.flip_at-flip.result (rank c.self.inside.slots.items c.in-Some.place) u in
    let number = number_here c.self.inside.slots.items c.in-Some.place held.0 held.1 c.number_at.result (c.number_at.ensures ∙ ap (λ ss. slot_number (get_or ss c.in-Some.place None)) c.deref-in-Some-2.ensures.value) in
    rounds_less _ _ _ _ c.self.invariant.0 c.args.e c.flip_at-flip.result (rank c.self.inside.slots.items c.in-Some.place) _ _ _ c.self.view_is c.flip_at-flip.ensures.edge c.flip_at-flip.ensures.image u
    (c.rounds_without.ensures (numbers_in c.self.inside.slots.items) (remove (numbers_in c.self.inside.slots.items) (rank c.self.inside.slots.items c.in-Some.place)) (subst (λ xs. AreCounted xs (numbers_in c.self.inside.slots.items)) (sym c.deref-in-Some.ensures.value) c.self.invariant.2)
    (rest_at _ _ _ _ c.self.invariant.0 (rank c.self.inside.slots.items c.in-Some.place) c.number_at.result within number)
    (rest_filled _ _ _ _ c.self.invariant.0 c.args.e c.flip_at-flip.result (rank c.self.inside.slots.items c.in-Some.place) _ _ c.self.view_is c.flip_at-flip.ensures.edge c.flip_at-flip.ensures.image u))

pub returns-then-most-next : goal.returns-then-most-next
returns-then-most-next c =
    let v = subst (λ ss. undone_slot ss c.flip_at-flip.result ≡ None) c.deref-3.ensures.value (sym c.undone_by.ensures ∙ c.in-None.is) in
    let most = c.self.invariant.2.as_many in
    let next = c.next_number-next.ensures ∙ ap (λ fs. suc (rounds_before (last_numbers (flips_in fs)) c.flip_at-flip.result)) c.deref-in-None-3.ensures.value in
    rounds_more _ _ _ _ c.self.invariant.0 c.args.e c.flip_at-flip.result _ _ _ c.self.view_is c.flip_at-flip.ensures.edge c.flip_at-flip.ensures.image (not_undone c.self.inside.slots.items c.flip_at-flip.result v) (omega arith)

pub returns-else-most-next : goal.returns-else-most-next
returns-else-most-next c =
    let v = subst (λ ss. undone_slot ss c.flip_at-flip.result ≡ None) c.deref-3.ensures.value (sym c.undone_by.ensures ∙ c.in-None.is) in
    let most = c.self.invariant.2.as_many in
    let next = c.next_number-next.ensures ∙ ap (λ fs. suc (rounds_before (last_numbers (flips_in fs)) c.flip_at-flip.result)) c.deref-in-None-3.ensures.value in
    rounds_more _ _ _ _ c.self.invariant.0 c.args.e c.flip_at-flip.result _ _ _ c.self.view_is c.flip_at-flip.ensures.edge c.flip_at-flip.ensures.image (not_undone c.self.inside.slots.items c.flip_at-flip.result v) (omega arith)
