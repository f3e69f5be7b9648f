use Rattle.std.proofs.Common.{◌∙◌, length, sym, ap, subst, subst₂, arith}
use Rattle.round_pack.specs.Slots.{flips_in, numbers_in}
use Rattle.round_pack.specs.Chains.{AreChained}
use Rattle.round_pack.specs.Counts.{AreCounted}
use Rattle.round_pack.proofs.Ends.{kept_same}
use Rattle.round_pack.proofs.track.Track.copy.Goals as goal

pub invariant_of-result : goal.invariant_of-result
invariant_of-result c =
    let slots = c.in_ok-slots.ensures.items ∙ c.deref.ensures.value in
    let heads = c.in_ok-heads.ensures.items ∙ c.deref-2.ensures.value in
    let before = c.in_ok-before.ensures.items ∙ c.deref-3.ensures.value in
    let counts = c.in_ok-counts.ensures.items ∙ c.deref-4.ensures.value in (
      kept_same _ _ _ _ _ _ _ _ c.self.invariant.0 c.in_ok-start.ensures.points c.in_ok-start.ensures.edges c.in_ok-mesh.ensures (ap flips_in slots) (ap numbers_in slots),
      subst (λ hs. AreChained hs c.in_ok-before.before.items c.in_ok-slots.slots.items) (sym heads) (subst₂ (AreChained c.self.inside.heads.items) (sym before) (sym slots) c.self.invariant.1),
      subst₂ AreCounted (sym counts) (sym (ap numbers_in slots)) c.self.invariant.2,
      (let a = ap length slots in let b = ap length before in let e = c.self.invariant.3 in omega (arith, a, b, e)),
      omega (arith, c.in_ok-slots.ensures.room),
      omega (arith, c.in_ok-before.ensures.room),
      omega (arith, c.in_ok-counts.ensures.room),
    )
