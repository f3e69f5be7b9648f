use Rattle.std.proofs.Common.{◌≡◌, ◌∙◌, ◌<◌, suc, List, [], ◌∷◌, ◌++◌, length, refl, sym, ap, subst, arith}
use Rattle.book_core.specs.HeldReplicas.{HeldReplica}
use Rattle.book_core.specs.HeldWorlds.{HeldWorld}
use Rattle.book_core.proofs.Caught.{joined}
use Rattle.book_core.proofs.world.World.join.Goals as goal

one_more : (rs : List HeldReplica) (r : HeldReplica) → length (rs ++ r ∷ []) ≡ suc (length rs)
one_more [] r = refl
one_more (s ∷ rs) r = ap suc (one_more rs r)

pub invariant_of-self-2 : goal.invariant_of-self-2
invariant_of-self-2 c =
    let pushed = c.push_reserved.ensures.items ∙ ap (λ l. l ++ c.in_ok-replica.replica ∷ []) c.reserve.ensures.items in
    let room = subst (λ (w : HeldWorld). length w.replicas < 4294967295) (sym c.self.view_is) c.requires in
    let long = ap (λ (rs : List HeldReplica). length rs) pushed in
    let more = one_more c.self.inside.replicas.items c.in_ok-replica.replica in (
      joined c.self.inside.book c.self.inside.replicas.items c.push_reserved.new.self.items c.in_ok-replica.replica c.self.invariant.0 c.in_ok-replica.ensures pushed,
      omega (arith, room, long, more),
    )
