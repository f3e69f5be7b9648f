use Rattle.std.proofs.Common.{inl, inr}
use Rattle.tri_check.proofs.Tables.{joined_up, joined_down, third_is_left, third_is_right, fits_one}
use Rattle.tri_check.proofs.table.fits.Goals as goal

pub fits_left-left-requires-clause-joined : goal.fits_left-left-requires-clause-joined
fits_left-left-requires-clause-joined c = joined_up c.args.edges.now c.args.table.now c.args.i c.at-e.result (record { left = 0; right = 0 }) _ _ c.requires.table c.at-e.ensures c.low.ensures.low c.high.ensures.high

pub fits_left-left-requires-clause-third : goal.fits_left-left-requires-clause-third
fits_left-left-requires-clause-third c = third_is_left c.args.edges.now c.args.table.now c.args.i c.at-e.result (record { left = 0; right = 0 }) _ _ c.requires.table c.at-e.ensures c.low.ensures.low c.high.ensures.high

pub fits_left-right-requires-clause-joined : goal.fits_left-right-requires-clause-joined
fits_left-right-requires-clause-joined c = joined_down c.args.edges.now c.args.table.now c.args.i c.at-e.result (record { left = 0; right = 0 }) _ _ c.requires.table c.at-e.ensures c.low-2.ensures.low c.high-2.ensures.high

pub fits_left-right-requires-clause-third : goal.fits_left-right-requires-clause-third
fits_left-right-requires-clause-third c = third_is_right c.args.edges.now c.args.table.now c.args.i c.at-e.result (record { left = 0; right = 0 }) _ _ c.requires.table c.at-e.ensures c.low-2.ensures.low c.high-2.ensures.high

pub returns-then-left : goal.returns-then-left
returns-then-left c = λ m. fits_one c.args.points.now c.args.edges.now c.args.table.now c.args.i c.at-e.result _ _ c.at-e.ensures c.low.ensures.low c.high.ensures.high c.args.hull.now c.requires.hull (c.has.ensures.0 m) (inl (c.fits_left-left.ensures c.if-left.true))

pub returns-then-right-2 : goal.returns-then-right-2
returns-then-right-2 c = λ m. fits_one c.args.points.now c.args.edges.now c.args.table.now c.args.i c.at-e.result _ _ c.at-e.ensures c.low-2.ensures.low c.high-2.ensures.high c.args.hull.now c.requires.hull (c.has-then-right-2.ensures.0 m) (inr (c.fits_left-right.ensures c.if-right-2.true))
