use Rattle.std.proofs.Common.{◌∙◌, Contains, true≢false, sym, subst}
use Rattle.replay.proofs.Quads.{corners_apart}
use Rattle.replay.proofs.Shared.{first_sharer, shares_side}
use Rattle.replay.proofs.round.try_edge.Goals as goal

pub first_side-requires : goal.first_side-requires
first_side-requires c = corners_apart _ c.requires.triangulated.placed _ c.requires.triangulated.triangulation c.args.e c.in-Some.q c.in-Some.ensures.some

pub returns-then-is_taken-clause-fault : goal.returns-then-is_taken-clause-fault
returns-then-is_taken-clause-fault c = (c.has.ensures.0 c.if-not-has.false, c.is_taken.ensures.0 c.if-is_taken.true)

pub returns-in-Some-first_side-clause-fault : goal.returns-in-Some-first_side-clause-fault
returns-in-Some-first_side-clause-fault c =
    let fresh : ¬ Contains c.args.taken.now.keys c.args.e = λ k. true≢false (sym (c.is_taken.ensures.1 k) ∙ c.if-is_taken.false) in (
      c.has.ensures.0 c.if-not-has.false,
      fresh,
      c.in-Some.ensures.flips,
      first_sharer _ c.requires.triangulated.placed _ c.requires.triangulated.triangulation c.args.e c.in-Some-first_side.f c.in-Some.q c.args.taken.now.keys c.in-Some.ensures.some fresh c.in-Some-first_side.ensures.some,
    )

pub returns-in-None-first_side : goal.returns-in-None-first_side
returns-in-None-first_side c =
    let fresh : ¬ Contains c.args.taken.now.keys c.args.e = λ k. true≢false (sym (c.is_taken.ensures.1 k) ∙ c.if-is_taken.false) in
    record {
      ok = record {
        flips = c.in-Some.ensures.flips;
        fresh = fresh;
        apart = λ f k s. c.in-None-first_side.ensures.none f k
            (shares_side _ c.requires.triangulated.placed _ c.requires.triangulated.triangulation c.args.e f c.in-Some.q c.in-Some.ensures.some (λ i. fresh (subst (Contains c.args.taken.now.keys) i k)) s);
      };
      fault = tt;
      round = tt;
      edge = tt;
    }
