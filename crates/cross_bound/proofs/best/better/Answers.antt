use Rattle.std.proofs.Common.{Some, subst, arith}
use Rattle.cross_bound.specs.Best.{IsBest}
use Rattle.cross_bound.proofs.FirstGreatest.{more_new, more_old}
use Rattle.cross_bound.proofs.best.better.Goals as goal

pub returns-then-old-next : goal.returns-then-old-next
returns-then-old-next c = λ f xs h e.
    let B : IsBest f xs (Some c.in-Some.old) = subst (IsBest f xs) c.in-Some.is h in
    let m = B.0 in
    (e, more_new f xs _ _ B.1 (omega (arith, m, e, c.if-old-next.true)))

pub returns-else-old-next : goal.returns-else-old-next
returns-else-old-next c = λ f xs h e.
    let B : IsBest f xs (Some c.in-Some.old) = subst (IsBest f xs) c.in-Some.is h in
    let m = B.0 in
    (m, more_old f xs _ _ B.1 (omega (arith, m, e, c.if-old-next.false)))
