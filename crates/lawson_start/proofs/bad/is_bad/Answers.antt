use Rattle.std.proofs.Common.{true≢false, sym}
use Rattle.lawson_start.proofs.Corners.{bad_at, bad_flips}
use Rattle.lawson_start.proofs.bad.is_bad.Goals as goal

pub returns-in-Some : goal.returns-in-Some
returns-in-Some c =
    let I = c.points.ensures.triangulation in
    let at = bad_at _ I.placed _ I.triangulation c.args.e c.in-Some.q c.in-Some.ensures.some in
    (λ h. at.1 (c.is_under.ensures.0 h), λ b. c.is_under.ensures.1 (at.0 b))

pub returns-in-None : goal.returns-in-None
returns-in-None c = (λ h. absurd (true≢false (sym h)), λ b. absurd (c.in-None.ensures.none (bad_flips _ _ _ b)))
