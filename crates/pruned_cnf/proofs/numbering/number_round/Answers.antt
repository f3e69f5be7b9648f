use Rattle.std.proofs.Common.{◌<◌, length, ap, arith}
use Rattle.formula_law.specs.Frames.{Frame}
use Rattle.formula_parts.specs.Building.{no_pair, pair_at}
use Rattle.pruned_cnf.specs.Queries.{live_in, is_live_flip_in, flip_in, flip_number}
use Rattle.pruned_cnf.specs.Numbered.{count_of_places, flips_before}
use Rattle.pruned_cnf.proofs.Numbers.{given, more_entries, more_kept, all_kept, flip_few, next_flip}
use Rattle.pruned_cnf.proofs.numbering.number_round.Goals as goal

pub push-requires : goal.push-requires
push-requires c = let q = c.args.query.now in omega (arith, flip_few q.frame (live_in q) q.rounds c.args.t c.loop-n.n c.requires.round, c.requires.few, c.loop-n.invariant.last)

pub loop-n-preserved : goal.loop-n-preserved
loop-n-preserved c =
    let q = c.args.query.now in
    let l : c.loop-n.n < length q.frame.flips = omega (arith, c.loop-n-test.true, c.flips-n-end.ensures.count, ap (λ (F : Frame). length F.flips) c.lists.ensures.lists) in
    let g = pair_at q.frame.flips c.loop-n.n in
    record {
      entries =
          more_entries (flip_number q c.args.t) q.frame.flips c.loop-n.n no_pair c.args.numbers.now.entries.items c.loop-n.numbers.entries.items c.push.new.self.entries.items _ l c.loop-n.invariant.entries c.in_ok-push.ensures.entries
          (given c.is_live_flip.result (is_live_flip_in q c.args.t g) _ c.loop-n.numbers.last (flip_in q c.args.t g) c.is_live_flip.ensures c.loop-n.invariant.last (λ h. next_flip q.points q.frame c.lists.ensures.query.frame (live_in q) q.rounds c.args.t c.loop-n.n c.requires.round l h));
      last = more_kept (is_live_flip_in q c.args.t) q.frame.flips c.loop-n.n no_pair (flips_before q c.args.t) c.loop-n.numbers.last c.push.new.self.last c.is_live_flip.result l c.is_live_flip.ensures c.loop-n.invariant.last c.in_ok-push.ensures.last;
    }

pub returns-clause-last : goal.returns-clause-last
returns-clause-last c = let q = c.args.query.now in all_kept (is_live_flip_in q) q.frame.flips c.loop-n.n c.args.t (count_of_places q) c.loop-n.numbers.last (omega (arith, c.loop-n-test.false, c.flips-n-end.ensures.count, ap (λ (F : Frame). length F.flips) c.lists.ensures.lists)) c.loop-n.invariant.last
