use Rattle.std.proofs.Common.{refl, sym, subst}
use Rattle.round_pack.proofs.Ends.{ends_differ, end_placed, end_triangulation}
use Rattle.tri_theory.specs.Flips.{Flips}
use Rattle.round_pack.specs.Tracks.{FlipTrack}
use Rattle.round_pack.proofs.track.Track.flip_at.Goals as goal

pub unreachable-requires : goal.unreachable-requires
unreachable-requires c =
    let a = c.self.invariant.0 in let s = c.in-Some.ensures.some in
    ends_differ c.self.inside.mesh.points (end_placed _ _ _ _ a) c.self.inside.mesh.edges (end_triangulation _ _ _ _ a) _ _ _ _ s.corners (c.in-None-of.ensures.none.0 refl)

pub unreachable-requires-in-None : goal.unreachable-requires-in-None
unreachable-requires-in-None c =
    let seen = subst (λ (v : FlipTrack). Flips v.points v.end c.args.e) (sym c.self.view_is) c.requires in
    c.in-None.ensures.none (subst (λ ps. Flips ps c.self.inside.mesh.edges c.args.e) (sym c.self.invariant.0.points) seen)
