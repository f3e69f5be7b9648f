use Rattle.std.proofs.Common.{◌≡◌, ◌∙◌, ◌<◌, ◌≤◌, length, true, false, sym, ap, arith}
use Rattle.log_law.specs.Clauses.{listed}
use Rattle.formula_law.specs.Frames.{Pair, Frame}
use Rattle.formula_parts.specs.Building.{no_pair, pair_at}
use Rattle.pruned_cnf.specs.Queries.{live_in, is_live_flip_in}
use Rattle.pruned_cnf.specs.Numbered.{count_of_places, flips_before}
use Rattle.pruned_cnf.proofs.Numbers.{more_kept, all_kept, flip_few, variables_within}
use Rattle.pruned_cnf.proofs.ToldRounds.{told_more, told_off, told_dead}
use Rattle.pruned_cnf.proofs.decoding.read_round.Goals as goal
use Rattle.pruned_cnf.proofs.decoding.read_round.Goals.{then-is_live_flip+then-is_on+in_ok-push, then-is_live_flip+else-is_on, else-is_live_flip}

pub overflow_add-last : goal.overflow_add-last
overflow_add-last c =
    let q = c.args.query.now in
    let I = c.lists-lists.ensures.query in
    let places : count_of_places q ≤ 2_000_000_000 = omega (arith, c.requires.few, I.rounds) in
    let flips : length q.frame.flips ≤ 16_777_216 = omega (arith, c.flips-n-end.ensures.few, c.flips-n-end.ensures.count, ap (λ (F : Frame). length F.flips) c.lists-lists.ensures.lists) in
    omega (arith, c.loop-n.invariant.last, flip_few q.frame (live_in q) q.rounds c.args.t c.loop-n.n c.requires.round, variables_within q.frame (live_in q) q.rounds 2_000_000_000 16_777_216 400_000 places flips I.rounds)

pub loop-n-preserved : goal.loop-n-preserved
loop-n-preserved c =
    let q = c.args.query.now in
    let I = c.lists-lists.ensures.query.frame in
    let l : c.loop-n.n < length q.frame.flips = omega (arith, c.loop-n-test.true, c.flips-n-end.ensures.count, ap (λ (F : Frame). length F.flips) c.lists-lists.ensures.lists) in
    elim c.if-is_live_flip.branch [
      | then-is_live_flip+then-is_on+in_ok-push w ↦
          let live = sym c.is_live_flip.ensures ∙ w.if-is_live_flip.true in
          let e : w.segment.result ≡ (pair_at q.frame.flips c.loop-n.n).0 = w.segment.ensures ∙ ap (λ (p : Pair). p.0) (sym w.flip.ensures.pair) ∙ ap (λ (F : Frame). (pair_at F.flips c.loop-n.n).0) c.lists-lists.ensures.lists in
          record {
            edges = w.edges-is ∙ told_more q.points q.frame I (live_in q) q.rounds c.args.t c.loop-n.n c.requires.round l (listed c.args.truth.now) c.loop-n.last c.loop-n.invariant.last w.segment.result c.loop-n.edges w.push.new.self live (sym w.is_on.ensures ∙ w.if-is_on.true) e c.loop-n.invariant.edges w.in_ok-push.ensures.ok;
            last = more_kept (is_live_flip_in q c.args.t) q.frame.flips c.loop-n.n no_pair (flips_before q c.args.t) c.loop-n.last c.if-is_live_flip.last true l (sym live) c.loop-n.invariant.last w.last-is;
          }
      | then-is_live_flip+else-is_on w ↦
          let live = sym c.is_live_flip.ensures ∙ w.if-is_live_flip.true in
          record {
            edges = w.edges-is ∙ told_off q.points q.frame I (live_in q) q.rounds c.args.t c.loop-n.n c.requires.round l (listed c.args.truth.now) c.loop-n.last c.loop-n.invariant.last c.loop-n.edges live (sym w.is_on.ensures ∙ w.if-is_on.false) c.loop-n.invariant.edges;
            last = more_kept (is_live_flip_in q c.args.t) q.frame.flips c.loop-n.n no_pair (flips_before q c.args.t) c.loop-n.last c.if-is_live_flip.last true l (sym live) c.loop-n.invariant.last w.last-is;
          }
      | else-is_live_flip w ↦
          let dead = sym c.is_live_flip.ensures ∙ w.if-is_live_flip.false in
          record {
            edges = w.edges-is ∙ told_dead q.points q.frame I (live_in q) q.rounds c.args.t c.loop-n.n c.requires.round l (listed c.args.truth.now) c.loop-n.last c.loop-n.invariant.last c.loop-n.edges dead c.loop-n.invariant.edges;
            last = more_kept (is_live_flip_in q c.args.t) q.frame.flips c.loop-n.n no_pair (flips_before q c.args.t) c.loop-n.last c.if-is_live_flip.last false l (sym dead) c.loop-n.invariant.last (omega (arith, w.last-is));
          }
    ]

pub returns-clause-last : goal.returns-clause-last
returns-clause-last c = let q = c.args.query.now in all_kept (is_live_flip_in q) q.frame.flips c.loop-n.n c.args.t (count_of_places q) c.loop-n.last (omega (arith, c.loop-n-test.false, c.flips-n-end.ensures.count, ap (λ (F : Frame). length F.flips) c.lists-lists.ensures.lists)) c.loop-n.invariant.last
