use Rattle.std.proofs.Common.{◌≡◌, ◌∙◌, length, get_or, None, Some, IsSome, refl, sym, ap, subst, arith}
use Rattle.round_pack.specs.Slots.{flips_in, numbers_in, rank, slot_number}
use Rattle.round_pack.specs.Chains.{AreChained, AreOrdered, undone_slot}
use Rattle.round_pack.specs.Counts.{AreFilled, IsRest}
use Rattle.round_pack.proofs.Slots.{undone_holds, undone_place, not_undone, number_here, flips_without, numbers_without}
use Rattle.round_pack.proofs.Ends.{undone_within, kept_ordered}
use Rattle.round_pack.proofs.RoundCounts.{counted_at, rest_at, rest_filled}
use Rattle.round_pack.proofs.Seen.{not_cancelled, is_cancelled, still_kept}
use Rattle.round_pack.proofs.track.Track.cancel.Goals as goal

pub undone_by-requires-clause-ordered : goal.undone_by-requires-clause-ordered
undone_by-requires-clause-ordered c = subst (λ ss. AreOrdered (flips_in ss)) (sym c.deref-3.ensures.value) (kept_ordered _ _ _ _ c.self.invariant.0)

pub number_at-number-requires : goal.number_at-number-requires
number_at-number-requires c =
    let v = subst (λ ss. undone_slot ss c.flip_at-flip.result ≡ Some c.in-Some.place) c.deref-3.ensures.value (sym c.undone_by.ensures ∙ c.in-Some.is) in
    let held = undone_holds c.self.inside.slots.items c.flip_at-flip.result c.in-Some.place v in
    let u = undone_place c.self.inside.slots.items c.flip_at-flip.result c.in-Some.place v in
    let l = held.2 in let e = ap length c.deref-in-Some.ensures.value in omega arith

pub take_out-requires-clause-within : goal.take_out-requires-clause-within
take_out-requires-clause-within c =
    let v = subst (λ ss. undone_slot ss c.flip_at-flip.result ≡ Some c.in-Some.place) c.deref-3.ensures.value (sym c.undone_by.ensures ∙ c.in-Some.is) in
    let held = undone_holds c.self.inside.slots.items c.flip_at-flip.result c.in-Some.place v in
    let u = undone_place c.self.inside.slots.items c.flip_at-flip.result c.in-Some.place v in
    held.2

pub take_out-requires-clause-there : goal.take_out-requires-clause-there
take_out-requires-clause-there c =
    let v = subst (λ ss. undone_slot ss c.flip_at-flip.result ≡ Some c.in-Some.place) c.deref-3.ensures.value (sym c.undone_by.ensures ∙ c.in-Some.is) in
    let held = undone_holds c.self.inside.slots.items c.flip_at-flip.result c.in-Some.place v in
    let u = undone_place c.self.inside.slots.items c.flip_at-flip.result c.in-Some.place v in
    subst IsSome (sym held.1) refl

pub count_out-requires-clause-positive : goal.count_out-requires-clause-positive
count_out-requires-clause-positive c =
    let v = subst (λ ss. undone_slot ss c.flip_at-flip.result ≡ Some c.in-Some.place) c.deref-3.ensures.value (sym c.undone_by.ensures ∙ c.in-Some.is) in
    let held = undone_holds c.self.inside.slots.items c.flip_at-flip.result c.in-Some.place v in
    let u = undone_place c.self.inside.slots.items c.flip_at-flip.result c.in-Some.place v in
    let within = undone_within (flips_in c.self.inside.slots.items) c.flip_at-flip.result (rank c.self.inside.slots.items c.in-Some.place) u in
    let number = number_here c.self.inside.slots.items c.in-Some.place held.0 held.1 c.number_at-number.result (c.number_at-number.ensures ∙ ap (λ ss. slot_number (get_or ss c.in-Some.place None)) c.deref-in-Some.ensures.value) in
    (counted_at _ _ _ _ c.self.invariant.0 c.self.inside.counts.items c.self.invariant.2 (rank c.self.inside.slots.items c.in-Some.place) c.number_at-number.result within number).0

pub count_out-requires-clause-within : goal.count_out-requires-clause-within
count_out-requires-clause-within c =
    let v = subst (λ ss. undone_slot ss c.flip_at-flip.result ≡ Some c.in-Some.place) c.deref-3.ensures.value (sym c.undone_by.ensures ∙ c.in-Some.is) in
    let held = undone_holds c.self.inside.slots.items c.flip_at-flip.result c.in-Some.place v in
    let u = undone_place c.self.inside.slots.items c.flip_at-flip.result c.in-Some.place v in
    let within = undone_within (flips_in c.self.inside.slots.items) c.flip_at-flip.result (rank c.self.inside.slots.items c.in-Some.place) u in
    let number = number_here c.self.inside.slots.items c.in-Some.place held.0 held.1 c.number_at-number.result (c.number_at-number.ensures ∙ ap (λ ss. slot_number (get_or ss c.in-Some.place None)) c.deref-in-Some.ensures.value) in
    (counted_at _ _ _ _ c.self.invariant.0 c.self.inside.counts.items c.self.invariant.2 (rank c.self.inside.slots.items c.in-Some.place) c.number_at-number.result within number).1

pub count_out-requires-clause-filled : goal.count_out-requires-clause-filled
count_out-requires-clause-filled c =
    let v = subst (λ ss. undone_slot ss c.flip_at-flip.result ≡ Some c.in-Some.place) c.deref-3.ensures.value (sym c.undone_by.ensures ∙ c.in-Some.is) in
    let held = undone_holds c.self.inside.slots.items c.flip_at-flip.result c.in-Some.place v in
    let u = undone_place c.self.inside.slots.items c.flip_at-flip.result c.in-Some.place v in
    let within = undone_within (flips_in c.self.inside.slots.items) c.flip_at-flip.result (rank c.self.inside.slots.items c.in-Some.place) u in
    let number = number_here c.self.inside.slots.items c.in-Some.place held.0 held.1 c.number_at-number.result (c.number_at-number.ensures ∙ ap (λ ss. slot_number (get_or ss c.in-Some.place None)) c.deref-in-Some.ensures.value) in
    (counted_at _ _ _ _ c.self.invariant.0 c.self.inside.counts.items c.self.invariant.2 (rank c.self.inside.slots.items c.in-Some.place) c.number_at-number.result within number).2

pub invariant_of-self : goal.invariant_of-self
invariant_of-self c =
    let v = subst (λ ss. undone_slot ss c.flip_at-flip.result ≡ Some c.in-Some.place) c.deref-3.ensures.value (sym c.undone_by.ensures ∙ c.in-Some.is) in
    let held = undone_holds c.self.inside.slots.items c.flip_at-flip.result c.in-Some.place v in
    let u = undone_place c.self.inside.slots.items c.flip_at-flip.result c.in-Some.place v in
    let within = undone_within (flips_in c.self.inside.slots.items) c.flip_at-flip.result (rank c.self.inside.slots.items c.in-Some.place) u in
    let number = number_here c.self.inside.slots.items c.in-Some.place held.0 held.1 c.number_at-number.result (c.number_at-number.ensures ∙ ap (λ ss. slot_number (get_or ss c.in-Some.place None)) c.deref-in-Some.ensures.value) in
    let flips = ap flips_in c.take_out.ensures.slots ∙ flips_without c.self.inside.slots.items c.in-Some.place held.0 held.1 in
    let numbers = ap numbers_in c.take_out.ensures.slots ∙ numbers_without c.self.inside.slots.items c.in-Some.place held.0 held.1 in (
      still_kept _ _ _ _ c.self.invariant.0 c.args.e c.flip_at-flip.result _ _ _ _ (rank c.self.inside.slots.items c.in-Some.place) _ _ c.self.view_is c.flip_at-flip.ensures.edge c.flip_at-flip.ensures.image u c.flip.ensures.points c.flip.ensures.edges flips numbers,
      subst (AreChained c.take_out.new.heads.items c.take_out.new.before.items) (sym c.take_out.ensures.slots) c.take_out.ensures.chained,
      c.count_out.ensures.counted (numbers_in c.self.inside.slots.items) (numbers_in c.take_out.new.slots.items) c.self.invariant.2
          (subst (λ ns. IsRest (numbers_in c.self.inside.slots.items) ns c.number_at-number.result) (sym numbers) (rest_at _ _ _ _ c.self.invariant.0 (rank c.self.inside.slots.items c.in-Some.place) c.number_at-number.result within number))
          (subst AreFilled (sym numbers) (rest_filled _ _ _ _ c.self.invariant.0 c.args.e c.flip_at-flip.result (rank c.self.inside.slots.items c.in-Some.place) _ _ c.self.view_is c.flip_at-flip.ensures.edge c.flip_at-flip.ensures.image u)),
      omega arith,
      omega arith,
      omega arith,
      omega arith,
    )

pub returns-in-None : goal.returns-in-None
returns-in-None c =
    let v = subst (λ ss. undone_slot ss c.flip_at-flip.result ≡ None) c.deref-3.ensures.value (sym c.undone_by.ensures ∙ c.in-None.is) in
    not_cancelled _ _ _ _ c.self.invariant.0 c.args.e c.flip_at-flip.result _ _ c.self.view_is c.flip_at-flip.ensures.edge c.flip_at-flip.ensures.image (not_undone c.self.inside.slots.items c.flip_at-flip.result v)

pub returns-in-Some : goal.returns-in-Some
returns-in-Some c =
    let v = subst (λ ss. undone_slot ss c.flip_at-flip.result ≡ Some c.in-Some.place) c.deref-3.ensures.value (sym c.undone_by.ensures ∙ c.in-Some.is) in
    let held = undone_holds c.self.inside.slots.items c.flip_at-flip.result c.in-Some.place v in
    let u = undone_place c.self.inside.slots.items c.flip_at-flip.result c.in-Some.place v in
    let flips = ap flips_in c.take_out.ensures.slots ∙ flips_without c.self.inside.slots.items c.in-Some.place held.0 held.1 in
    is_cancelled _ _ _ _ c.self.invariant.0 c.args.e c.flip_at-flip.result _ c.flip.new.self (flips_in c.take_out.new.slots.items) (rank c.self.inside.slots.items c.in-Some.place) _ _ c.self.view_is c.flip_at-flip.ensures.edge c.flip_at-flip.ensures.image u c.flip.ensures.edges flips
