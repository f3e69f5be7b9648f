use Rattle.std.proofs.Common.{◌∙◌, sym, ap, subst, length}
use Rattle.sweep_law.specs.Boundaries.{CanBeSwept}
use Rattle.gen_instance.specs.Generated.{points_of}
use Rattle.gen_instance.proofs.Strips.{points_can_be_swept}
use Rattle.gen_instance.proofs.Words.{points_begin, points_more, points_end, length_points_of}
use Rattle.gen_instance.proofs.points.points_of.Goals as goal

pub loop-i-init : goal.loop-i-init
loop-i-init c = points_begin c.args.seed c.args.count c.in_ok-points.points c.new-words.result c.in_ok-points.ensures c.new-words.ensures

pub loop-i-preserved : goal.loop-i-preserved
loop-i-preserved c =
    points_more c.loop-i.words c.next_word-x.new.self c.next_word-y.new.self c.next_word-x.result c.next_word-y.result c.next_word-x.ensures c.next_word-y.ensures
    c.loop-i.points c.push.new.self (points_of c.args.seed c.args.count) c.point_by.result c.loop-i.i c.args.count c.loop-i-test.true c.loop-i.invariant c.point_by.ensures c.in_ok-push.ensures.ok

pub returns-clause-same : goal.returns-clause-same
returns-clause-same c = points_end c.loop-i.points (points_of c.args.seed c.args.count) c.loop-i.words c.loop-i.i c.args.count c.loop-i-test.false c.loop-i.invariant

pub returns-clause-count : goal.returns-clause-count
returns-clause-count c =
    ap length (points_end c.loop-i.points (points_of c.args.seed c.args.count) c.loop-i.words c.loop-i.i c.args.count c.loop-i-test.false c.loop-i.invariant)
    ∙ length_points_of c.args.seed c.args.count c.requires.low

pub returns-clause-swept : goal.returns-clause-swept
returns-clause-swept c =
    subst CanBeSwept (sym (points_end c.loop-i.points (points_of c.args.seed c.args.count) c.loop-i.words c.loop-i.i c.args.count c.loop-i-test.false c.loop-i.invariant))
    (points_can_be_swept c.args.seed c.args.count c.requires.low c.requires.high)
