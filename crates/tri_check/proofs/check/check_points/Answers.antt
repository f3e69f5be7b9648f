use Rattle.std.proofs.Common.{refl, length}
use Rattle.tri_check.specs.declared.fault.Bad.TheVariants.{TooFewPoints, Collinear, NoInput}
use Rattle.tri_check.specs.Stages.{AreCollinear, AreSpread}
use Rattle.tri_check.proofs.Searches.{on_true, on_false, on_none, on_some, refuted}
use Rattle.tri_check.proofs.Order.{first_plain}
use Rattle.tri_check.proofs.PointFaults.{first_range, first_repeat, clear_5, clear_6, clear_7, clear_8, sound}
use Rattle.tri_check.proofs.check.check_points.Goals as goal

pub returns-in-Some-clause-err : goal.returns-in-Some-clause-err
returns-in-Some-clause-err c = first_range _ _ c.in-Some.i c.requires.clear c.in-Some.ensures

pub returns-then-points-lt3-clause-err : goal.returns-then-points-lt3-clause-err
returns-then-points-lt3-clause-err c = first_plain c.args.points.now c.args.inputs.now (TooFewPoints (length c.args.points.now)) 5 refl (clear_5 _ _ c.requires c.in_default.ensures) (refl, c.if-points-lt3.true)

pub returns-in-Some-twice-clause-err : goal.returns-in-Some-twice-clause-err
returns-in-Some-twice-clause-err c = first_repeat _ _ _ _ (clear_6 _ _ c.requires c.in_default.ensures c.if-points-lt3.false) (on_some _ _ _ _ c.in_ok-twice.ensures c.in-Some-twice.is)

pub returns-then-are_collinear-clause-err : goal.returns-then-are_collinear-clause-err
returns-then-are_collinear-clause-err c =
    first_plain c.args.points.now c.args.inputs.now Collinear 7 refl (clear_7 _ _ c.requires c.in_default.ensures c.if-points-lt3.false (on_none _ _ _ c.in_ok-twice.ensures c.in_default-twice.not-Some))
    (on_true c.are_collinear.result (AreCollinear c.args.points.now) (AreSpread c.args.points.now) c.are_collinear.ensures c.if-are_collinear.true)

pub returns-then-is_empty-clause-err : goal.returns-then-is_empty-clause-err
returns-then-is_empty-clause-err c =
    first_plain c.args.points.now c.args.inputs.now NoInput 8 refl
    (clear_8 _ _ c.requires c.in_default.ensures c.if-points-lt3.false (on_none _ _ _ c.in_ok-twice.ensures c.in_default-twice.not-Some) (on_false c.are_collinear.result (AreCollinear c.args.points.now) (AreSpread c.args.points.now) c.are_collinear.ensures c.if-are_collinear.false))
    (c.is_empty.ensures.0 c.if-is_empty.true)

pub returns-clause-ok : goal.returns-clause-ok
returns-clause-ok c =
    sound _ _ c.requires c.in_default.ensures c.if-points-lt3.false (on_none _ _ _ c.in_ok-twice.ensures c.in_default-twice.not-Some)
    (on_false c.are_collinear.result (AreCollinear c.args.points.now) (AreSpread c.args.points.now) c.are_collinear.ensures c.if-are_collinear.false)
    (refuted _ _ c.is_empty.ensures c.if-is_empty.false)
