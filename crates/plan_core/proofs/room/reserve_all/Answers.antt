use Rattle.std.proofs.Common.{◌<◌, ◌+◌, ◌≤◌, [], ◌∷◌, All, length, set, take, sym, subst, arith}
use Rattle.std.proofs.lemmas.List.{take_more_set}
use Rattle.std.proofs.lemmas.List.Elements.{All-append, All-cons, All-nil}
use Rattle.round_pack.specs.Tracks.{FlipTrack}
use Rattle.plan_core.specs.Steps.{IsRoomier}
use Rattle.plan_core.proofs.Held.{as_roomy}
use Rattle.plan_core.proofs.Through.{on, partly}
use Rattle.plan_core.proofs.room.reserve_all.Goals as goal

pub returns-in_err-reserve-clause-kept : goal.returns-in_err-reserve-clause-kept
returns-in_err-reserve-clause-kept c =
    let l : c.loop-i.i < length c.loop-i.tracks = omega (arith, c.len-i-end.ensures, c.loop-i-test.true, c.loop-i.invariant.through.long) in
    let here : IsRoomier c.at_mut.result.now c.reserve.new.self =
    record { of_points = c.in_err-reserve.ensures.points; from = c.in_err-reserve.ensures.start; flips = c.in_err-reserve.ensures.flips; to = c.in_err-reserve.ensures.end; spare = c.in_err-reserve.ensures.spare } in
    partly IsRoomier as_roomy (c.loop-i.i + 1) c.args.tracks.now (set c.loop-i.tracks c.loop-i.i c.reserve.new.self)
    (on IsRoomier c.loop-i.i c.args.tracks.now c.loop-i.tracks c.at_mut.result.now c.reserve.new.self c.loop-i.invariant.through l c.at_mut.ensures.value here)

pub loop-i-preserved : goal.loop-i-preserved
loop-i-preserved c =
    let l : c.loop-i.i < length c.loop-i.tracks = omega (arith, c.len-i-end.ensures, c.loop-i-test.true, c.loop-i.invariant.through.long) in
    let here : IsRoomier c.at_mut.result.now c.reserve.new.self =
    record { of_points = c.in_ok-reserve.ensures.points; from = c.in_ok-reserve.ensures.start; flips = c.in_ok-reserve.ensures.flips; to = c.in_ok-reserve.ensures.end; spare = c.in_ok-reserve.ensures.spare } in
    record {
      through = on IsRoomier c.loop-i.i c.args.tracks.now c.loop-i.tracks c.at_mut.result.now c.reserve.new.self c.loop-i.invariant.through l c.at_mut.ensures.value here;
      room = subst (All (λ (track : FlipTrack). c.args.k ≤ track.spare)) (sym (take_more_set c.loop-i.tracks c.loop-i.i c.reserve.new.self l))
          (All-append (λ (track : FlipTrack). c.args.k ≤ track.spare) (take c.loop-i.i c.loop-i.tracks) (c.reserve.new.self ∷ []) c.loop-i.invariant.room
          (All-cons (λ (track : FlipTrack). c.args.k ≤ track.spare) c.reserve.new.self [] c.in_ok-reserve.ensures.room (All-nil (λ (track : FlipTrack). c.args.k ≤ track.spare))));
    }
