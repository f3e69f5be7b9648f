use Rattle.std.proofs.Common.{◌∙◌, ◌<◌, ◌++◌, ◌∷◌, [], suc, sym, ap, subst, arith}
use Rattle.flip_list_law.specs.FlipLists.{rounds_before, last_numbers}
use Rattle.round_pack.specs.Tracks.{FlipTrack, flip}
use Rattle.round_pack.specs.Slots.{flips_in, numbers_in}
use Rattle.round_pack.specs.Chains.{AreChained, AreOrdered}
use Rattle.round_pack.specs.Counts.{AreCounted}
use Rattle.round_pack.proofs.Slots.{flips_append, numbers_append}
use Rattle.round_pack.proofs.Ends.{kept_append, kept_ordered}
use Rattle.round_pack.proofs.Seen.{is_appended}
use Rattle.round_pack.proofs.RoundCounts.{next_within}
use Rattle.round_pack.proofs.track.Track.append.Goals as goal

pub invariant_of-self : goal.invariant_of-self
invariant_of-self c =
    let number = c.next_number-number.ensures ∙ ap (λ fs. suc (rounds_before (last_numbers (flips_in fs)) (flip c.args.e c.flip-image.result))) c.deref-3.ensures.value in
    let flips = ap flips_in c.push_reserved.ensures.items ∙ flips_append c.self.inside.slots.items _ in
    let numbers = ap numbers_in c.push_reserved.ensures.items ∙ numbers_append c.self.inside.slots.items _ in
    let spare : 0 < c.self.inside.room = subst (λ (v : FlipTrack). 0 < v.spare) (sym c.self.view_is) c.requires.spare in (
      kept_append _ _ _ _ _ _ _ _ _ _ c.self.invariant.0 c.flip-image.ensures.points c.flip-image.ensures.edges number flips numbers,
      subst (AreChained c.link.new.heads.items c.link.new.before.items) (sym c.push_reserved.ensures.items) (c.link.ensures.chained c.self.inside.slots.items c.self.invariant.1),
      subst (AreCounted c.count_in.new.counts.items) (ap (λ ss. numbers_in ss ++ c.next_number-number.result ∷ []) c.deref-4.ensures.value ∙ sym numbers) c.count_in.ensures.counted,
      omega arith,
      omega arith,
      omega arith,
      omega arith,
    )

pub returns : goal.returns
returns c =
    is_appended _ _ _ _ c.self.invariant.0 c.args.e c.flip-image.result c.flip-image.new.self _ c.self.inside.room _ c.self.view_is c.requires.spare c.flip-image.ensures.edges
    (ap flips_in c.push_reserved.ensures.items ∙ flips_append c.self.inside.slots.items _)

pub next_number-number-requires-clause-ordered : goal.next_number-number-requires-clause-ordered
next_number-number-requires-clause-ordered c = subst (λ ss. AreOrdered (flips_in ss)) (sym c.deref-3.ensures.value) (kept_ordered _ _ _ _ c.self.invariant.0)

pub count_in-requires-clause-next : goal.count_in-requires-clause-next
count_in-requires-clause-next c =
    let number = c.next_number-number.ensures ∙ ap (λ fs. suc (rounds_before (last_numbers (flips_in fs)) (flip c.args.e c.flip-image.result))) c.deref-3.ensures.value in
    let w = next_within (flips_in c.self.inside.slots.items) (numbers_in c.self.inside.slots.items) c.self.inside.counts.items (flip c.args.e c.flip-image.result) c.self.invariant.0.numbered c.self.invariant.2 in
    omega arith
