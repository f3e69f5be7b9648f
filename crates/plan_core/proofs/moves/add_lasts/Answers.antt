use Rattle.std.proofs.Common.{◌∙◌, ◌<◌, [], ◌∷◌, ◌++◌, length, take, sym, ap, arith}
use Rattle.std.proofs.lemmas.List.{append_assoc, map-append}
use Rattle.replay.proofs.Lists.{take_push, read_at}
use Rattle.round_pack.specs.Tracks.{FlipTrack}
use Rattle.plan_law.specs.Plans.{last_moves}
use Rattle.plan_core.specs.HeldPlans.{lists_of}
use Rattle.plan_core.proofs.Held.{last_moves_push}
use Rattle.plan_core.proofs.moves.add_lasts.Goals as goal

pub loop-i-preserved : goal.loop-i-preserved
loop-i-preserved c =
    let l : c.loop-i.i < length c.args.tracks.now = omega (arith, c.len-i-end.ensures, c.loop-i-test.true) in
    let lists = ap lists_of (take_push c.args.tracks.now c.loop-i.i c.at.result.now l (read_at c.args.tracks.now c.loop-i.i c.at.result.now c.at.ensures)) ∙ map-append (λ (t : FlipTrack). t.flips) (take c.loop-i.i c.args.tracks.now) (c.at.result.now ∷ []) in
    c.in_ok-add_last.ensures
    ∙ (ap (λ ms. ms ++ last_moves (c.at.result.now.flips ∷ [])) c.loop-i.invariant
    ∙ (append_assoc c.args.moves.now (last_moves (lists_of (take c.loop-i.i c.args.tracks.now))) (last_moves (c.at.result.now.flips ∷ []))
    ∙ ap (λ ms. c.args.moves.now ++ ms) (sym (ap last_moves lists ∙ last_moves_push (lists_of (take c.loop-i.i c.args.tracks.now)) c.at.result.now.flips))))
